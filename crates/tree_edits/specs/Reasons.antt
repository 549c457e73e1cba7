-- The reasons for which an edit is refused, parted in those that lie in the edit itself and in the
-- element that it names, and the limits of the edited tree.
use Rattle.std.specs.Prelude.{ℕ, ◌^◌, List, [], ◌∷◌, length, Bool, nat_lt, ◌||◌, Option}
use Rattle.std.specs.List.{find}
use Rattle.std.specs.Option.{option_map}
use Rattle.math_tree.specs.Forms.{most_elements, most_bytes}
use Rattle.math_tree.specs.Trees.{Listed}
use Rattle.math_tree.specs.declared.node.Node.{Node}
use Rattle.tree_edits.specs.Edits.{head_of, is_not_text, is_in_text, is_past, is_fixed, is_misnamed, is_long}
use Rattle.tree_edits.specs.Paths.{children_of}
use Rattle.tree_edits.specs.declared.edit.Edit.{Edit}
use Rattle.tree_edits.specs.declared.edit.EditRefusal.{EditRefusal}
use Rattle.tree_edits.specs.declared.edit.EditRefusal.TheVariants.{NotText, IsText, IndexPast, RootFixed, BadName, TextLong, TooDeep, TooMany, IdsSpent}

-- an element at a level as a list shows it
abbrev pub shown : ℕ → Node → Listed
shown level element =
    record { level = level; head = head_of element; children = length (children_of element) }

-- the first of these that holds
abbrev pub first_reason : List (Bool × EditRefusal) → Option EditRefusal
first_reason reasons = option_map (λ row. row.1) (find (λ row. row.0) reasons)

-- those that lie in the edit and in the element that it names
abbrev pub own_reasons : Edit → Listed → List (Bool × EditRefusal)
own_reasons edit element =
    (is_not_text edit element, NotText)
    ∷ (is_in_text edit element, IsText)
    ∷ (is_past edit element, IndexPast)
    ∷ (is_fixed edit element, RootFixed)
    ∷ (is_misnamed edit, BadName)
    ∷ (is_long edit, TextLong)
    ∷ []

abbrev pub own_reason : Edit → Listed → Option EditRefusal
own_reason edit element = first_reason (own_reasons edit element)

-- the limits: by whether an element of the edited tree stands too deep, how many elements and bytes
-- there are, and its next id
abbrev pub limits : Bool → ℕ → ℕ → ℕ → List (Bool × EditRefusal)
limits deep elements bytes next =
    (deep, TooDeep)
    ∷ (nat_lt most_elements elements || nat_lt most_bytes bytes, TooMany)
    ∷ (nat_lt (2 ^ 32) next, IdsSpent)
    ∷ []

abbrev pub broken_limit : Bool → ℕ → ℕ → ℕ → Option EditRefusal
broken_limit deep elements bytes next = first_reason (limits deep elements bytes next)
