use Rattle.std.proofs.Common.{◌≡◌, ◌+◌, ◌-◌, ◌^◌, min, filter, length, take}
use Rattle.kept_results.specs.Kept.{is_live, is_marked}
use Rattle.kept_results.specs.declared.memo.Memo.TheViews.{out-Memo}
use Rattle.kept_laid.proofs.Totals.{total}
use Rattle.kept_laid.proofs.amount.+count_or_most.Given as goal

-- the element's own, and those of the first children
abbrev pub invariant-loop-below : goal.invariant-loop-below
invariant-loop-below l =
    l.total ≡ min (length (filter (is_live (is_marked (out-Memo l.memo))) (out-Memo l.memo).entries) + total (take l.below-index l.below-items)) (2 ^ 64 - 1)
