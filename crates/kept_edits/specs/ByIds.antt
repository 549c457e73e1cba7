-- Which layouts an edit may have to make, told by ids.
use Rattle.std.specs.Prelude.{◌≡◌, ⊤, ◌⊎◌, ℕ, ◌+◌, ◌≤◌, true, List, [], ◌∷◌, ◌++◌, length, None, Some}
use Rattle.std.specs.List.{AllByRecursion, Contains, list_any}
use Rattle.splices.specs.Splicing.{AllBrought}
use Rattle.splices.specs.declared.splice.Splice.{Splice}
use Rattle.font_metrics.specs.Metrics.{MetricsValue}
use Rattle.math_tree.specs.Trees.{IsWhole, TreeValue, ids_of, listed}
use Rattle.math_tree.specs.declared.node.Node.{Node}
use Rattle.tree_edits.specs.Edits.{edited, has_id, head_of, refusal_of}
use Rattle.tree_edits.specs.Paths.{node_at, splice_of}
use Rattle.tree_edits.specs.declared.change.Change.{Change}
use Rattle.tree_edits.specs.declared.edit.Edit.{Edit}
use Rattle.layout_model.specs.Layout.{Visit, root_context, visits}
use Rattle.layout_model.specs.declared.context.Context.{Context}
use Rattle.kept_results.specs.Passes.{HasNoRepeat, Needs, Pair}
use Rattle.kept_results.specs.declared.memo.Memo.{Memo}
use Rattle.kept_edits.specs.Changed.{FitsMemo, changed_memo}
use Rattle.kept_edits.specs.EditPaths.{IsEditPath}
use Rattle.kept_edits.specs.Edited.{IsChangeOf}
use Rattle.kept_edits.specs.Laws.{IsSame}
use Rattle.kept_edits.specs.Need.{IsCounted, IsSealedFor}
use Rattle.kept_edits.specs.Passed.{TakesMissing}
use Rattle.kept_edits.specs.declared.change.Renewal.{Renewal}

-- ---- what may have to be made

-- the layout of an element with this id in a context
pub record IdPair : Type 0 where
  pub id : ℕ
  pub context : Context

-- the context in which the root of a tree is laid out
abbrev pub context_at_root : MetricsValue → TreeValue → Context
context_at_root m tree = root_context m (head_of tree.root)

-- it is one of those that are made for the layout of a tree
pub record IsVisited (m : MetricsValue) (tree : TreeValue) (pair : IdPair) : Type 0 where
  pub visit : Visit
  pub made : Contains (visits m tree.root (context_at_root m tree)) visit
  pub id_is : visit.id.0 ≡ pair.id
  pub context_is : visit.context ≡ pair.context

-- an element of a tree has this id
abbrev pub HasId : TreeValue → ℕ → Type 0
HasId tree id = list_any (λ element. has_id id element.head) (listed 1 tree.root) ≡ true

-- an element on the path from the root to the one that an edit changes has this id
pub record IsOnPath (tree : TreeValue) (edit : Edit) (id : ℕ) : Type 0 where
  pub path : List ℕ
  pub to_end : IsEditPath tree edit path
  pub front : List ℕ
  pub rest : List ℕ
  pub parts : path ≡ front ++ rest
  pub element : Node
  pub at : node_at front tree.root ≡ Some element
  pub has : has_id id (head_of element) ≡ true

-- the layout of the edited tree needs it; and its element is on the path of the edit, or is none of
-- the old tree, or the layout of the old tree didn't need it
pub record IsNeeded (m : MetricsValue) (old : TreeValue) (edit : Edit)
    (pair : IdPair) : Type 0 where
  pub visited : IsVisited m (edited old edit) pair
  pub why : IsOnPath old edit pair.id ⊎ ((HasId old pair.id → ⊥) ⊎ (IsVisited m old pair → ⊥))

abbrev pub NoneTwice : List IdPair → Type 0
NoneTwice [] = ⊤
NoneTwice (pair ∷ pairs) = AllByRecursion (λ other. pair ≡ other → ⊥) pairs × NoneTwice pairs

-- each of so many steps is a layout that an edit of a tree needs, none twice
pub record TakesNeeded (m : MetricsValue) (old : TreeValue) (edit : Edit)
    (from to : ℕ) : Type 0 where
  pub pairs : List IdPair
  pub steps : to ≡ from + length pairs
  pub needed : AllByRecursion (IsNeeded m old edit) pairs
  pub apart : NoneTwice pairs

-- ---- counted by places, and by ids

-- this holds of all ids in what a change puts into a tree
abbrev pub BringsBy : (ℕ → Type 0) → Change → Type 0
BringsBy P change =
    AllBrought (λ child. AllByRecursion P (ids_of (listed 1 child))) (splice_of change)

-- what it puts into a tree has no ids but free ones, which no element of the tree has
abbrev pub BringsFree : TreeValue → Change → Type 0
BringsFree tree change = BringsBy (λ id. HasId tree id → ⊥) change

-- an edit of a whole tree is this change at the end of its path, and leaves a whole tree
pub record IsEditAt (tree : TreeValue) (edit : Edit) (change : Change)
    (path : List ℕ) : Type 0 where
  pub whole : IsWhole tree
  pub whole_after : IsWhole (edited tree edit)
  pub to_end : IsEditPath tree edit path
  pub is : IsChangeOf tree edit change path
  pub free : BringsFree tree change

-- an edit that isn't refused is such a change
abbrev pub EditAtLaw : Type 0
EditAtLaw =
    (tree : TreeValue) (edit : Edit) → IsWhole tree → IsWhole (edited tree edit) →
    refusal_of tree edit ≡ None →
    (change : Change) × (path : List ℕ) × IsEditAt tree edit change path

-- layouts that are needed after it and are counted by places, none twice, are ones that it needs by
-- ids
abbrev pub NeedLaw : Type 0
NeedLaw =
    (m : MetricsValue) (tree : TreeValue) (edit : Edit) (change : Change) (path : List ℕ)
    (pairs : List Pair) (from to : ℕ) →
    IsEditAt tree edit change path → to ≡ from + length pairs →
    AllByRecursion (Needs m (edited tree edit).root (context_at_root m (edited tree edit))) pairs →
    AllByRecursion (IsCounted m path change tree.root (context_at_root m tree)) pairs →
    HasNoRepeat pairs →
    TakesNeeded m tree edit from to

-- and so are the steps of a pass after it
abbrev pub PassNeedLaw : Type 0
PassNeedLaw =
    (m : MetricsValue) (tree : TreeValue) (edit : Edit) (change : Change) (path : List ℕ)
    (memo : Memo) (other : Splice Memo) (known : List Renewal)
    (from to : ℕ) → IsEditAt tree edit change path →
    IsSealedFor m tree.root (context_at_root m tree) memo → FitsMemo other path memo →
    IsSame m change other →
    TakesMissing m (edited tree edit).root (context_at_root m (edited tree edit))
    (changed_memo other known path memo) from to →
    TakesNeeded m tree edit from to
