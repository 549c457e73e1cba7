-- The edits that are drawn.
use Rattle.std.specs.Prelude.{ℕ, zero, suc, ◌+◌, List, [], ◌∷◌, ◌++◌, Some, codes, nat_eq, if◌then◌else◌}
use Rattle.std.specs.Fmt.{decimal}
use Rattle.math_tree.specs.declared.node.NodeId.{NodeId}
use Rattle.tree_edits.specs.declared.edit.Edit.{Edit}
use Rattle.tree_edits.specs.declared.edit.Edit.TheVariants.{Text, Attr}
use Rattle.seeded_edits.specs.Draws.{drawn, next_state}
use Rattle.seeded_edits.specs.Start.{row_count, row_id}

abbrev pub id : ℕ → NodeId
id n = record { 0 = n }

-- an attribute of an element gets a value
abbrev pub attribute_set : ℕ → List ℕ → List ℕ → Edit
attribute_set element name value = Attr (id element) name (Some value)

-- ---- the four kinds of edits, by the id of a row

-- another number in the parentheses
abbrev pub set_number : ℕ → ℕ → Edit
set_number row number = Text (id (row + 11)) (decimal number)

-- another thickness of the fraction's rule, in px
abbrev pub set_thickness : ℕ → ℕ → Edit
set_thickness row thickness =
    attribute_set (row + 3) (codes "linethickness") (decimal thickness ++ codes "px")

-- another script level of the row
abbrev pub set_level : ℕ → ℕ → Edit
set_level row level = attribute_set row (codes "scriptlevel") (decimal level)

abbrev pub form_named : ℕ → List ℕ
form_named number =
    if nat_eq number 0 then codes "prefix"
    else if nat_eq number 1 then codes "infix"
    else codes "postfix"

-- another form of the plus sign
abbrev pub set_form : ℕ → ℕ → Edit
set_form row form = attribute_set (row + 2) (codes "form") (form_named form)

-- ---- drawn

-- the edit of a row by the number of its kind; what is set is drawn from this state on
unfoldable pub edit_of_kind : ℕ → ℕ → ℕ → Edit
edit_of_kind kind row state =
    if nat_eq kind 0 then set_number row (drawn 1000 state)
    else if nat_eq kind 1 then set_thickness row (drawn 5 state)
    else if nat_eq kind 2 then set_level row (drawn 3 state)
    else set_form row (drawn 3 state)

-- the first draw gives the row, the second the kind, the third what is set
unfoldable pub drawn_edit : ℕ → Edit
drawn_edit state =
    edit_of_kind (drawn 4 (next_state state)) (row_id (drawn row_count state))
    (next_state (next_state state))

-- the state after the three draws of an edit
unfoldable pub after_draws : ℕ → ℕ
after_draws state = next_state (next_state (next_state state))

-- so many edits, one after another; the first is drawn from this state on
unfoldable pub drawn_edits : ℕ → ℕ → List Edit
drawn_edits zero state = []
drawn_edits (suc count) state = drawn_edit state ∷ drawn_edits count (after_draws state)
