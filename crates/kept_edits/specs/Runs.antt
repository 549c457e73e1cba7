-- What an edit leaves of the runs of kept layouts, and of their number.
use Rattle.std.specs.Prelude.{◌≡◌, ◌≤◌, ℕ, List}
use Rattle.splices.specs.Splicing.{IsAlike}
use Rattle.splices.specs.declared.splice.Splice.{Splice}
use Rattle.font_metrics.specs.Metrics.{MetricsValue}
use Rattle.math_tree.specs.Trees.{TreeValue}
use Rattle.tree_edits.specs.Edits.{edited}
use Rattle.tree_edits.specs.Paths.{splice_of}
use Rattle.tree_edits.specs.declared.change.Change.{Change}
use Rattle.tree_edits.specs.declared.edit.Edit.{Edit}
use Rattle.outcome_cells.specs.Store.{Runs}
use Rattle.kept_results.specs.Backed.{HaveOwnRuns, IsBacked}
use Rattle.kept_results.specs.Ends.{kept_count}
use Rattle.kept_results.specs.declared.memo.Memo.{Memo}
use Rattle.kept_edits.specs.Blank.{blank}
use Rattle.kept_edits.specs.Changed.{FitsMemo, changed_memo}
use Rattle.kept_edits.specs.Edited.{IsChangeOf}
use Rattle.kept_edits.specs.Laws.{IsReadyFor}
use Rattle.kept_edits.specs.declared.change.Renewal.{Renewal}

-- a change of an element and a splice of the memos below its own do the same, and nothing is kept
-- of a child that is put in
abbrev pub PutsBlank : Change → Splice Memo → Type 0
PutsBlank change other = IsAlike (λ child new. new ≡ blank child) (splice_of change) other

-- where no two entries have one run, no two have one in the changed memo
abbrev pub ChangeOwnRunsLaw : Type 0
ChangeOwnRunsLaw =
    (memo : Memo) (change : Change) (other : Splice Memo) (path : List ℕ) (known : List Renewal) →
    FitsMemo other path memo → PutsBlank change other →
    HaveOwnRuns memo → HaveOwnRuns (changed_memo other known path memo)

-- the change of a memo adds no entry to those that are no older ones
abbrev pub ChangeCountLaw : Type 0
ChangeCountLaw =
    (memo : Memo) (change : Change) (other : Splice Memo) (path : List ℕ) (known : List Renewal) →
    FitsMemo other path memo → PutsBlank change other →
    kept_count (changed_memo other known path memo) ≤ kept_count memo

-- runs that have the layouts of a memo beside a tree have those of the changed memo beside the
-- edited tree
abbrev pub FollowBackedLaw : Type 0
FollowBackedLaw =
    (m : MetricsValue) (runs : Runs) (tree : TreeValue) (edit : Edit) (change : Change)
    (other : Splice Memo) (path : List ℕ) (known : List Renewal) (memo : Memo) →
    IsChangeOf tree edit change path → PutsBlank change other →
    IsReadyFor m tree.root memo → IsBacked m runs tree.root memo →
    IsBacked m runs (edited tree edit).root (changed_memo other known path memo)
