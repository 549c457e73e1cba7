use Rattle.std.proofs.Common.{◌≡◌, ◌++◌, take}
use Rattle.std.specs.Vec.{vec_capacity}
use Rattle.kept_results.specs.Kept.{is_marked}
use Rattle.kept_results.specs.declared.memo.Memo.TheViews.{out-Memo}
use Rattle.kept_sweep.specs.Runs.{live_runs}
use Rattle.kept_sweep.proofs.runs.list_own.Given as goal

-- the runs of the first entries came, in the room that there was
abbrev pub invariant-loop-entry : goal.invariant-loop-entry
invariant-loop-entry l =
    (l.runs.items ≡ l.fn.runs.items ++ live_runs (is_marked (out-Memo l.memo)) (take l.entry-index l.entry-items))
    × (vec_capacity l.runs ≡ vec_capacity l.fn.runs)
