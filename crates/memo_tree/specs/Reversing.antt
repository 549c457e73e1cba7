-- What takes a change of a tree with its kept layouts back.
use Rattle.std.specs.Prelude.{◌≡◌, ℕ, List}
use Rattle.splices.specs.declared.splice.Splice.{Splice}
use Rattle.tree_edits.specs.Applying.{CanRestore, TakenValue, restored}
use Rattle.kept_results.specs.declared.memo.Memo.{Memo}
use Rattle.kept_edits.specs.Changed.{FitsMemo, undone_memo}
use Rattle.memo_tree.specs.Trees.{MemoTreeValue}

-- what undoes the change of the tree, and the splice of memos that undoes theirs, at the end of
-- this path
pub record ReversalValue : Type 0 where
  pub taken : TakenValue
  pub path : List ℕ
  pub back : Splice Memo

-- the tree before the change, and what was kept of it; the store is as it is
abbrev pub reversed : ReversalValue → MemoTreeValue → MemoTreeValue
reversed reversal laid = record {
  tree = restored reversal.taken laid.tree;
  metrics = laid.metrics;
  memo = undone_memo reversal.back reversal.path laid.memo;
  store = laid.store;
}

-- it fits the tree and the memos
pub record CanReverse (reversal : ReversalValue) (laid : MemoTreeValue) : Type 0 where
  pub tree : CanRestore reversal.taken laid.tree
  pub memo : FitsMemo reversal.back reversal.path laid.memo

-- it gives back what was there before
pub record Reverses (reversal : ReversalValue) (laid before : MemoTreeValue) : Type 0 where
  pub can : CanReverse reversal laid
  pub gives : reversed reversal laid ≡ before
