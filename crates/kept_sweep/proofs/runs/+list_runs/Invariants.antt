use Rattle.std.proofs.Common.{◌≡◌, ◌++◌, take}
use Rattle.std.specs.Vec.{vec_capacity}
use Rattle.kept_results.specs.Kept.{is_marked}
use Rattle.kept_results.specs.declared.memo.Memo.TheViews.{out-Memo}
use Rattle.kept_sweep.specs.Runs.{live_runs}
use Rattle.kept_sweep.proofs.Listing.{joined}
use Rattle.kept_sweep.proofs.runs.+list_runs.Given as goal

abbrev pub decreases-list_runs : goal.decreases-list_runs
decreases-list_runs l = goal.size-list_runs l

-- the element's own runs and those of the first memos came, in the room that there was
abbrev pub invariant-loop-below : goal.invariant-loop-below
invariant-loop-below l =
    (l.runs.items ≡ l.fn.runs.items ++ (live_runs (is_marked (out-Memo l.memo)) (out-Memo l.memo).entries ++ joined (take l.below-index l.below-items)))
    × (vec_capacity l.runs ≡ vec_capacity l.fn.runs)
