-- The edit that takes an edit back.
use Rattle.std.specs.Prelude.{◌≡◌, ℕ, ◌+◌, ◌-◌, ◌^◌, ◌≤◌, List, [], ◌∷◌, min, if◌then◌else◌, Option, Some, None, slice_get}
use Rattle.std.specs.Option.{option_and_then, option_map, option_map_or}
use Rattle.math_tree.specs.Attributes.{value_of}
use Rattle.math_tree.specs.Trees.{TreeValue, IsWhole}
use Rattle.math_tree.specs.declared.node.Node.{Node}
use Rattle.math_tree.specs.declared.node.Node.TheFolds.{fold-Node}
use Rattle.math_tree.specs.declared.node.Node.TheOpen.{Node-F}
use Rattle.math_tree.specs.declared.node.NodeId.{NodeId}
use Rattle.splices.specs.declared.splice.Splice.TheVariants.{Stay, Put, Take, Swap as Exchange}
use Rattle.tree_edits.specs.Applying.{IsProperEdit, TakenValue}
use Rattle.tree_edits.specs.Edits.{added, edited, has_id, head_of, refusal_of}
use Rattle.tree_edits.specs.Paths.{children_of, node_at}
use Rattle.tree_edits.specs.declared.change.Change.{Change}
use Rattle.tree_edits.specs.declared.change.Change.TheVariants.{SetText, SetValue, Children}
use Rattle.tree_edits.specs.declared.edit.Edit.{Edit}
use Rattle.tree_edits.specs.declared.edit.Edit.TheVariants.{Text, Attr, Insert, Remove, Replace, Graft, Swap}

-- ---- the element of an id

-- the first of these ways, from the element over the ones at which they begin, counted from a place
abbrev pub first_way : ℕ → List (Option (List ℕ)) → Option (List ℕ)
first_way place [] = None
first_way place (Some way ∷ ways) = Some (place ∷ way)
first_way place (None ∷ ways) = first_way (place + 1) ways

abbrev pub way_from : ℕ → Node-F (Option (List ℕ)) → Option (List ℕ)
way_from id layer = if has_id id layer.head then Some [] else first_way 0 layer.children

-- the way down to the element of an id, the first of them in document order
unfoldable pub way_to : ℕ → Node → Option (List ℕ)
way_to id node = fold-Node (Option (List ℕ)) (way_from id) node

-- that element
abbrev pub element_of : ℕ → TreeValue → Option Node
element_of id tree = option_and_then (λ way. node_at way tree.root) (way_to id tree.root)

-- an element as a child: the id of the one over it, and its place there
pub record Child : Type 0 where
  pub over : NodeId
  pub place : ℕ
  pub element : Node

-- the child at the end of a way
abbrev pub child_at : List ℕ → Node → Option Child
child_at [] node = None
child_at (place ∷ []) node =
    option_map
    (λ child. record { over = (head_of node).id; place = place; element = child })
    (slice_get (children_of node) place)
child_at (place ∷ next ∷ way) node =
    option_and_then (child_at (next ∷ way)) (slice_get (children_of node) place)

-- the child of an id
abbrev pub child_of : ℕ → TreeValue → Option Child
child_of id tree = option_and_then (λ way. child_at way tree.root) (way_to id tree.root)

-- ---- the inverse

-- the text that there was; the value that there was, or its absence; new elements are removed, what
-- was removed is grafted at its place, what was replaced is swapped in again
abbrev pub inverse : TreeValue → Edit → Edit
inverse tree (Text id text) =
    Text id (option_map_or (λ e. (head_of e).text) (element_of id.0 tree) [])
inverse tree (Attr id name value) =
    Attr id name (option_and_then (λ e. value_of name (head_of e).attributes)
    (element_of id.0 tree))
inverse tree (Insert id index element) = Remove (record { 0 = tree.next_id })
inverse tree (Remove id) =
    option_map_or (λ c. Graft c.over c.place c.element) (child_of id.0 tree) (Remove id)
inverse tree (Replace id element) =
    option_map_or (λ e. Swap (record { 0 = tree.next_id }) e) (element_of id.0 tree) (Remove id)
inverse tree (Graft id index element) = Remove (head_of element).id
inverse tree (Swap id element) =
    option_map_or (λ e. Swap (head_of element).id e) (element_of id.0 tree) (Remove id)

-- ---- what an edit took, as an edit

-- a change as the edit that names this element
abbrev pub edit_by : Change → NodeId → Edit
edit_by (SetText text) id = Text id text
edit_by (SetValue name value room) id = Attr id name value
edit_by (Children Stay) id = Remove id
edit_by (Children (Put index child room)) id = Graft id (min index (2 ^ 32 - 1)) child
edit_by (Children (Take index)) id = Remove id
edit_by (Children (Exchange index child)) id = Swap id child

abbrev pub edit_of : TakenValue → Edit
edit_of taken = edit_by taken.change taken.back

-- the element that is named by the edit which takes a change of an element back: the one that the
-- change brings, and else that element itself
abbrev pub named_back : Change → Node → NodeId
named_back (SetText text) element = (head_of element).id
named_back (SetValue name value room) element = (head_of element).id
named_back (Children Stay) element = (head_of element).id
named_back (Children (Put index child room)) element = (head_of child).id
named_back (Children (Take index)) element = (head_of element).id
named_back (Children (Exchange index child)) element = (head_of child).id

-- ---- laws

-- the tree with another next id
abbrev pub with_next : ℕ → TreeValue → TreeValue
with_next next tree = record tree { next_id = next }

-- it gives no new ids, and the tree takes it
pub record IsBack (tree : TreeValue) (edit : Edit) : Type 0 where
  pub proper : IsProperEdit edit
  pub settled : added edit ≡ 0
  pub accepted : refusal_of tree edit ≡ None

-- the edited tree takes the inverse, which gives the elements of before, with their ids; the next
-- id stays
abbrev pub InverseLaw : Type 0
InverseLaw =
    (tree : TreeValue) (edit : Edit) → IsWhole tree → IsProperEdit edit →
    refusal_of tree edit ≡ None →
    IsBack (edited tree edit) (inverse tree edit)
    × (edited (edited tree edit) (inverse tree edit)
    ≡ with_next (edited tree edit).next_id tree)

-- an edit that gives no new ids is taken with a later next id too, and makes the same of the tree
abbrev pub LaterLaw : Type 0
LaterLaw =
    (tree : TreeValue) (edit : Edit) (next : ℕ) → IsBack tree edit → tree.next_id ≤ next →
    next ≤ 2 ^ 32 →
    IsBack (with_next next tree) edit
    × (edited (with_next next tree) edit ≡ with_next next (edited tree edit))
