-- An edit of a tree as one change, which memos follow.
use Rattle.std.specs.Prelude.{◌≡◌, ℕ, ◌+◌, true, List, length, None, Some, slice_get}
use Rattle.splices.specs.Splicing.{with_room as splice_with_room}
use Rattle.splices.specs.declared.splice.Splice.{Splice}
use Rattle.font_metrics.specs.Metrics.{MetricsValue}
use Rattle.math_tree.specs.Trees.{IsWhole, TreeValue}
use Rattle.math_tree.specs.declared.node.Node.{Node}
use Rattle.tree_edits.specs.Edits.{edited, has_id, head_of, named, refusal_of}
use Rattle.tree_edits.specs.Laws.{IsOfParent, IsOwn, own_change, parent_change}
use Rattle.tree_edits.specs.Paths.{FitsAt, changed, changed_at, children_of, node_at}
use Rattle.tree_edits.specs.declared.change.Change.{Change}
use Rattle.tree_edits.specs.declared.change.Change.TheVariants.{SetText, SetValue, Children}
use Rattle.tree_edits.specs.declared.edit.Edit.{Edit}
use Rattle.kept_results.specs.declared.memo.Memo.{Memo}
use Rattle.kept_edits.specs.Changed.{changed_memo}
use Rattle.kept_edits.specs.Laws.{IsReadyFor, IsSame, KnownOn}
use Rattle.kept_edits.specs.declared.change.Renewal.{Renewal}

-- the same change, with room for what it adds to an element
abbrev pub with_room : Change → Node → Change
with_room (SetText text) element = SetText text
with_room (SetValue name value room) element =
    SetValue name value (length (head_of element).attributes + 1)
with_room (Children splice) element =
    Children (splice_with_room (length (children_of element) + 1) splice)

-- an edit of a tree is this change at the end of a path
pub record IsChangeOf (tree : TreeValue) (edit : Edit) (change : Change)
    (path : List ℕ) : Type 0 where
  pub fits : FitsAt change path tree.root
  pub gives : (edited tree edit).root ≡ changed_at (changed change) path tree.root

-- an edit that isn't refused is one change at the end of the path to the element that it names
abbrev pub OwnEditLaw : Type 0
OwnEditLaw =
    (tree : TreeValue) (edit : Edit) (path : List ℕ) (element : Node) → IsWhole tree →
    refusal_of tree edit ≡ None → IsOwn edit →
    node_at path tree.root ≡ Some element → has_id (named edit) (head_of element) ≡ true →
    IsChangeOf tree edit (with_room (own_change edit tree.next_id) element) path

-- or at the end of that to the element over it, in which it stands at a place
abbrev pub ParentEditLaw : Type 0
ParentEditLaw =
    (tree : TreeValue) (edit : Edit) (path : List ℕ) (element : Node) (place : ℕ) (child : Node) →
    IsWhole tree → IsOfParent edit →
    node_at path tree.root ≡ Some element → slice_get (children_of element) place ≡ Some child →
    has_id (named edit) (head_of child) ≡ true →
    IsChangeOf tree edit (parent_change edit tree.next_id place) path

-- memos that agree with a tree agree with the edited one, when the same is changed in them
abbrev pub FollowLaw : Type 0
FollowLaw =
    (m : MetricsValue) (tree : TreeValue) (edit : Edit) (change : Change) (other : Splice Memo)
    (path : List ℕ) (known : List Renewal) (memo : Memo) →
    IsChangeOf tree edit change path → IsSame m change other → IsReadyFor m tree.root memo →
    KnownOn known path (edited tree edit).root memo →
    IsReadyFor m (edited tree edit).root (changed_memo other known path memo)
