use Rattle.std.proofs.Common.{take, false}
use Rattle.kept_results.specs.Kept.{IsMissing}
use Rattle.kept_results.specs.declared.memo.Memo.TheViews.{out-Memo}
use Rattle.kept_sweep.proofs.flags.place_of.Given as goal

-- the first entries aren't in this context
abbrev pub invariant-loop-at : goal.invariant-loop-at
invariant-loop-at l = IsMissing false l.context (take l.at (out-Memo l.memo).entries)
