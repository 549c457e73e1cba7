-- Where an element stands in a tree, and the tree in which it is changed.
use Rattle.std.specs.Prelude.{◌≡◌, ℕ, ◌+◌, ◌<◌, ◌≤◌, List, [], ◌∷◌, length, true, false, Option, Some, None, slice_get, slice_set}
use Rattle.std.specs.List.{list_any}
use Rattle.std.specs.Option.{option_and_then, option_map_or}
use Rattle.math_tree.specs.Attributes.{value_of}
use Rattle.math_tree.specs.Forms.{most_levels}
use Rattle.math_tree.specs.Trees.{node, listed}
use Rattle.math_tree.specs.declared.node.Node.{Node}
use Rattle.math_tree.specs.declared.node.Node.TheViews.{out-Node}
use Rattle.tree_edits.specs.Edits.{has_id, head_of, with_text, with_attribute}
use Rattle.tree_edits.specs.declared.change.Change.{Change}
use Rattle.tree_edits.specs.declared.change.Change.TheVariants.{SetText, SetValue, Children}
use Rattle.tree_edits.specs.declared.change.Replaced.{Replaced}
use Rattle.tree_edits.specs.declared.change.Replaced.TheVariants.{Text, Value, Child}
use Rattle.splices.specs.Splicing.{FitsIn, spliced, taken}
use Rattle.splices.specs.declared.splice.Splice.{Splice}
use Rattle.splices.specs.declared.splice.Splice.TheVariants.{Stay}

abbrev pub children_of : Node → List Node
children_of element = (out-Node element).children

-- the element that a path leads to: the child at its first place, and so on from there
abbrev pub node_at : List ℕ → Node → Option Node
node_at [] element = Some element
node_at (place ∷ path) element =
    option_and_then (node_at path) (slice_get (children_of element) place)

-- the element that it leads to is changed, and all others stay as they are
abbrev pub changed_at : (Node → Node) → List ℕ → Node → Node
changed_at change [] element = change element
changed_at change (place ∷ path) element =
    option_map_or
    (λ child.
    node (head_of element) (slice_set (children_of element) place (changed_at change path child)))
    (slice_get (children_of element) place) element

-- a path to the element of an id, from one at a level, within the levels of a tree
pub record LeadsTo (id level : ℕ) (from : Node) (path : List ℕ) : Type 0 where
  pub element : Node
  pub at : node_at path from ≡ Some element
  pub has : has_id id (head_of element) ≡ true
  pub short : level + length path ≤ most_levels

-- such a path, or none where no element has the id
abbrev pub Finds : ℕ → ℕ → Node → Option (List ℕ) → Type 0
Finds id level from None = list_any (λ e. has_id id e.head) (listed level from) ≡ false
Finds id level from (Some path) = LeadsTo id level from path

-- ---- one change of an element

-- the element as it is changed
abbrev pub changed : Change → Node → Node
changed (SetText text) element = node (with_text text (head_of element)) (children_of element)
changed (SetValue name value room) element =
    node (with_attribute name value (head_of element)) (children_of element)
changed (Children splice) element = node (head_of element) (spliced splice (children_of element))

-- it can be changed so: there is such a place, and room for what is added
abbrev pub Fits : Change → Node → Type 0
Fits (SetText text) element = Unit {0}
Fits (SetValue name value room) element = length (head_of element).attributes < room
Fits (Children splice) element = FitsIn splice (children_of element)

-- what that replaces
abbrev pub replaced_by : Change → Node → Replaced
replaced_by (SetText text) element = Text (head_of element).text
replaced_by (SetValue name value room) element = Value (value_of name (head_of element).attributes)
replaced_by (Children splice) element = Child (taken splice (children_of element))

-- what it does to the children
abbrev pub splice_of : Change → Splice Node
splice_of (SetText text) = Stay
splice_of (SetValue name value room) = Stay
splice_of (Children splice) = splice

-- the same at the end of a path
pub record FitsAt (change : Change) (path : List ℕ) (from : Node) : Type 0 where
  pub element : Node
  pub at : node_at path from ≡ Some element
  pub fits : Fits change element
