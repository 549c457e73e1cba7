-- The states of a tree with its kept layouts, from one edit to the next.
use Rattle.std.specs.Prelude.{◌≡◌, [], None, unwrap_or}
use Rattle.std.specs.Option.{IsSome}
use Rattle.outcome_cells.specs.Store.{StoreValue}
use Rattle.kept_results.specs.Ends.{stripped}
use Rattle.kept_results.specs.Kept.{Agrees, HoldsOne}
use Rattle.kept_results.specs.Tidy.{IsTidy}
use Rattle.kept_edits.specs.Laws.{IsReadyFor}
use Rattle.memo_tree.specs.Trees.{HasRuns, IsLaidOut, MemoTreeValue, context_of}

pub data State : Type 0 where
  -- the tree is new or was edited, and no pass over it began since then
  Changed : State
  -- a pass over it ended somewhere, done or not
  Stopped : State
  -- a pass over it was done: the layout of the root is kept
  Passed : State
  -- and what it made is settled: neither an edit nor a pass is under way
  Sealed : State

-- what is kept agrees with the tree, its cells are in the store, no pass is under way, and nothing
-- is marked below an element that isn't
pub record IsChanged (laid : MemoTreeValue) : Type 0 where
  pub ready : IsReadyFor laid.metrics laid.tree.root laid.memo
  pub has_runs : HasRuns laid
  pub idle : laid.store.checkpoint ≡ None
  pub tidy : IsTidy laid.memo

-- a store as it was at its checkpoint
abbrev pub at_checkpoint : StoreValue → StoreValue
at_checkpoint store = record { runs = unwrap_or store.checkpoint []; checkpoint = None }

-- the same tree, without what the present pass made
abbrev pub without_pass : MemoTreeValue → MemoTreeValue
without_pass laid = record {
  tree = laid.tree;
  metrics = laid.metrics;
  memo = stripped laid.memo;
  store = at_checkpoint laid.store;
}

-- a pass is under way: what is kept agrees with the tree, its cells are in the store, nothing is
-- marked or fresh below an element that the edit and the pass left alone, and without what the pass
-- made it is as a pass may find it
pub record IsStopped (laid : MemoTreeValue) : Type 0 where
  pub agrees : Agrees laid.metrics laid.tree.root laid.memo
  pub has_runs : HasRuns laid
  pub tidy : IsTidy laid.memo
  pub in_pass : IsSome laid.store.checkpoint
  pub begun : IsChanged (without_pass laid)

-- so it is too where a pass was done, and the layout of the root is kept
pub record IsPassed (laid : MemoTreeValue) : Type 0 where
  pub stopped : IsStopped laid
  pub kept : HoldsOne [] laid.memo (context_of laid.metrics laid.tree)

-- in each state what is kept agrees with the tree and the metrics
abbrev pub IsIn : State → MemoTreeValue → Type 0
IsIn Changed laid = IsChanged laid
IsIn Stopped laid = IsStopped laid
IsIn Passed laid = IsPassed laid
IsIn Sealed laid = IsLaidOut laid
