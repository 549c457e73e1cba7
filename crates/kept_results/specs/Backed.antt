-- The runs of kept layouts in a store, and what a pass does to that store.
use Rattle.std.specs.Prelude.{◌≡◌, ◌⊎◌, ℕ, ◌+◌, List, ◌++◌, Bool, true, length}
use Rattle.font_metrics.specs.Metrics.{MetricsValue}
use Rattle.math_tree.specs.declared.node.Node.{Node}
use Rattle.layout_model.specs.Layout.{lay}
use Rattle.outcome_cells.specs.Laws.{KeepsOutcomes}
use Rattle.outcome_cells.specs.Store.{HasOutcome, HasSomeOutcome, Runs, StoreValue}
use Rattle.kept_results.specs.Kept.{HasEntry, Holds, StandAt}
use Rattle.kept_results.specs.declared.memo.Entry.{Entry}
use Rattle.kept_results.specs.declared.memo.Memo.{Memo}
use Rattle.kept_results.specs.declared.memo.Memo.TheOpen.{Memo-F}
use Rattle.kept_results.specs.declared.memo.Memo.TheViews.{out-Memo}

-- each entry of an element that is no older one has a run with some outcome
abbrev pub AreBacked : Runs → Memo-F Memo → Type 0
AreBacked runs layer = (entry : Entry) → HasEntry layer entry → HasSomeOutcome runs entry.run.0

-- the state of runs beside a memo and a tree: for each entry that is no older one, its run has the
-- cells of the layout of its element as the tree is now
pub record IsBacked (m : MetricsValue) (runs : Runs) (node : Node) (memo : Memo) : Type 0 where
  pub at : (path : List ℕ) (element : Node) (kept : Memo) (entry : Entry)
      → StandAt path node memo element kept → HasEntry (out-Memo kept) entry
      → HasOutcome runs entry.run.0 (lay m element entry.context)

-- no two entries that are no older ones have one run, of one element or of two
pub record HaveOwnRuns (memo : Memo) : Type 0 where
  pub at : (path other : List ℕ) (a b : Entry) → Holds path memo a → Holds other memo b
      → a.run ≡ b.run → (path ≡ other) × (a.context ≡ b.context)

-- runs may have come in a store, behind those that were there, and none went: each has what it had
pub record OnlyGrows (before after : StoreValue) : Type 0 where
  pub added : Runs
  pub grown : after.runs ≡ before.runs ++ added
  pub others : KeepsOutcomes before.runs after.runs
  pub checkpoint : after.checkpoint ≡ before.checkpoint

-- what a pass does to a store, with the memo and the steps that were counted before it and after
-- it. It keeps the state and all that was put. An entry that it made has a run that came since, and
-- no two have one run, where no two had before. Where it is done, there are as many runs more as it
-- made steps
pub record Grows (m : MetricsValue) (node : Node) (before after : Memo) (held holds : StoreValue)
    (from to : ℕ) (done : Bool) : Type 0 where
  pub backed : IsBacked m holds.runs node after
  pub only : OnlyGrows held holds
  pub came : (path : List ℕ) (entry : Entry) → Holds path after entry
      → Holds path before entry ⊎ (HasSomeOutcome held.runs entry.run.0 → ⊥)
  pub own : HaveOwnRuns before → HaveOwnRuns after
  pub counted : done ≡ true → length holds.runs + from ≡ length held.runs + to
