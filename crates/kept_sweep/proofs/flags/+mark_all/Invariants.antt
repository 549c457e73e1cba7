use Rattle.kept_results.proofs.Renewing.{Renewed}
use Rattle.kept_sweep.specs.Flagged.{all_marked}
use Rattle.kept_sweep.proofs.flags.+mark_all.Given as goal

abbrev pub decreases-mark_all : goal.decreases-mark_all
decreases-mark_all l = goal.size-mark_all l

abbrev pub invariant-loop-at : goal.invariant-loop-at
invariant-loop-at l = Renewed all_marked l.fn.memo l.memo l.at
