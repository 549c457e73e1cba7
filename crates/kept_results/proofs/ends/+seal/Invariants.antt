use Rattle.std.proofs.Common.{◌≡◌, ◌-◌, ◌^◌, min, take}
use Rattle.kept_results.specs.Ends.{fresh_below, sealed}
use Rattle.kept_results.specs.declared.memo.Memo.TheViews.{out-Memo}
use Rattle.kept_results.proofs.Renewing.{Renewed}
use Rattle.kept_results.proofs.ends.+seal.Given as goal

-- the memos of the first children are sealed, and their fresh entries are counted
abbrev pub invariant-seal_all-loop-at : goal.invariant-seal_all-loop-at
invariant-seal_all-loop-at l = record {
  renewed : Renewed sealed l.fn.memo l.memo l.at;
  counted : l.made ≡ min (fresh_below (take l.at (out-Memo l.fn.memo).below)) (2 ^ 64 - 1);
}
