-- Which layouts stay kept after an edit, and which are missing.
use Rattle.std.specs.Prelude.{◌≡◌, ℕ, ◌+◌, List, length}
use Rattle.std.specs.List.{AllByRecursion}
use Rattle.font_metrics.specs.Metrics.{MetricsValue}
use Rattle.math_tree.specs.Trees.{IsWhole, TreeValue}
use Rattle.tree_edits.specs.Edits.{edited}
use Rattle.tree_edits.specs.declared.change.Change.{Change}
use Rattle.tree_edits.specs.declared.edit.Edit.{Edit}
use Rattle.kept_results.specs.Kept.{Holds}
use Rattle.kept_results.specs.Passes.{IsPairMissing, Pair}
use Rattle.kept_results.specs.declared.memo.Entry.{Entry}
use Rattle.kept_edits.specs.ByIds.{IdPair, IsEditAt, IsVisited, NoneTwice, TakesNeeded}
use Rattle.kept_edits.specs.Need.{CameFrom, IsCounted}
use Rattle.kept_edits.specs.Passed.{TakesMissing}
use Rattle.kept_sweep.specs.Swept.{CountsNeeded}
use Rattle.memo_tree.specs.Trees.{MemoTreeValue, context_of}

-- an edit is one change at the end of its path; what isn't kept after it is a layout of an element
-- on that path or of a new one, or one that wasn't needed before
pub record MissingIsCounted (old : MemoTreeValue) (edit : Edit) (new : MemoTreeValue) : Type 0 where
  pub path : List ℕ
  pub change : Change
  pub is : IsEditAt old.tree edit change path
  pub counted : (pair : Pair) → IsPairMissing new.memo pair →
      IsCounted old.metrics path change old.tree.root (context_of old.metrics old.tree) pair

-- each entry of an element that the edit leaves alone stays as it is, where the element stands
-- after it
pub record EntriesStay (old : MemoTreeValue) (edit : Edit) (new : MemoTreeValue) : Type 0 where
  pub path : List ℕ
  pub change : Change
  pub is : IsEditAt old.tree edit change path
  pub stays : (before behind : List ℕ) (entry : Entry) → CameFrom path change before behind →
      Holds before old.memo entry → Holds behind new.memo entry

-- each step of a pass after the edit is then a layout that the edit needs, told by ids, and none is
-- taken twice
abbrev pub StepsLaw : Type 0
StepsLaw =
    (old new : MemoTreeValue) (edit : Edit) (from to : ℕ) → MissingIsCounted old edit new →
    new.tree ≡ edited old.tree edit → new.metrics ≡ old.metrics →
    TakesMissing new.metrics new.tree.root (context_of new.metrics new.tree) new.memo from to →
    TakesNeeded old.metrics old.tree edit from to

-- each of so many steps is a layout that is made for the one of a tree, told by ids, none twice
pub record TakesVisits (m : MetricsValue) (tree : TreeValue) (from to : ℕ) : Type 0 where
  pub pairs : List IdPair
  pub steps : to ≡ from + length pairs
  pub visited : AllByRecursion (IsVisited m tree) pairs
  pub apart : NoneTwice pairs

-- so is each step that lays a whole tree out
abbrev pub VisitsLaw : Type 0
VisitsLaw =
    (m : MetricsValue) (tree : TreeValue) (from to : ℕ) → IsWhole tree →
    CountsNeeded m tree.root (context_of m tree) from to → TakesVisits m tree from to
