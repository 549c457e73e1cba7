-- What the map over all elements is: one change at the end of the way to an element.
use Rattle.std.specs.Prelude.{◌≡◌, ℕ, List, Some, true, slice_get}
use Rattle.splices.specs.declared.splice.Splice.TheVariants.{Put, Take, Swap as Exchange}
use Rattle.math_tree.specs.Numbering.{renumbered}
use Rattle.math_tree.specs.Trees.{TreeValue, IsWhole}
use Rattle.math_tree.specs.declared.node.Node.{Node}
use Rattle.tree_edits.specs.Edits.{named, has_id, head_of, edited}
use Rattle.tree_edits.specs.Paths.{children_of, node_at, changed_at, changed}
use Rattle.tree_edits.specs.declared.change.Change.{Change}
use Rattle.tree_edits.specs.declared.change.Change.TheVariants.{SetText, SetValue, Children}
use Rattle.tree_edits.specs.declared.edit.Edit.{Edit}
use Rattle.tree_edits.specs.declared.edit.Edit.TheVariants.{Text, Attr, Insert, Remove, Replace, Graft, Swap}

-- the edits that change the element itself that they name, and not the one over it
abbrev pub IsOwn : Edit → Type 0
IsOwn (Text id text) = Unit {0}
IsOwn (Attr id name value) = Unit {0}
IsOwn (Insert id index element) = Unit {0}
IsOwn (Remove id) = ⊥
IsOwn (Replace id element) = ⊥
IsOwn (Graft id index element) = Unit {0}
IsOwn (Swap id element) = ⊥

-- what such an edit changes of that element
abbrev pub own_change : Edit → ℕ → Change
own_change (Text id text) next = SetText text
own_change (Attr id name value) next = SetValue name value 0
own_change (Insert id index element) next = Children (Put index (renumbered next element) 0)
own_change (Remove id) next = Children (Take 0)
own_change (Replace id element) next = Children (Exchange 0 element)
own_change (Graft id index element) next = Children (Put index element 0)
own_change (Swap id element) next = Children (Exchange 0 element)

-- in a whole tree such an edit is the change at the end of the way to the element
abbrev pub OwnChangeLaw : Type 0
OwnChangeLaw =
    (tree : TreeValue) (edit : Edit) (path : List ℕ) (element : Node) → IsWhole tree → IsOwn edit
    → node_at path tree.root ≡ Some element → has_id (named edit) (head_of element) ≡ true
    → (edited tree edit).root ≡ changed_at (changed (own_change edit tree.next_id)) path tree.root

-- the edits that take or change a child of the element over the one that they name
abbrev pub IsOfParent : Edit → Type 0
IsOfParent (Text id text) = ⊥
IsOfParent (Attr id name value) = ⊥
IsOfParent (Insert id index element) = ⊥
IsOfParent (Remove id) = Unit {0}
IsOfParent (Replace id element) = Unit {0}
IsOfParent (Graft id index element) = ⊥
IsOfParent (Swap id element) = Unit {0}

-- what such an edit changes of the element over the one that it names, which stands at that place
abbrev pub parent_change : Edit → ℕ → ℕ → Change
parent_change (Text id text) next place = SetText text
parent_change (Attr id name value) next place = SetValue name value 0
parent_change (Insert id index element) next place = Children (Put index element 0)
parent_change (Remove id) next place = Children (Take place)
parent_change (Replace id element) next place =
    Children (Exchange place (renumbered next element))
parent_change (Graft id index element) next place = Children (Put index element 0)
parent_change (Swap id element) next place = Children (Exchange place element)

-- in a whole tree such an edit is the change at the end of the way to that element
abbrev pub ParentChangeLaw : Type 0
ParentChangeLaw =
    (tree : TreeValue) (edit : Edit) (path : List ℕ) (element : Node) (place : ℕ) (child : Node) →
    IsWhole tree
    → IsOfParent edit → node_at path tree.root ≡ Some element →
    slice_get (children_of element) place ≡ Some child
    → has_id (named edit) (head_of child) ≡ true
    → (edited tree edit).root
    ≡ changed_at (changed (parent_change edit tree.next_id place)) path tree.root
