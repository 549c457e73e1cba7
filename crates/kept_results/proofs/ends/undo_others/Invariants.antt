use Rattle.kept_results.proofs.Undoing.{Undoing}
use Rattle.kept_results.proofs.ends.undo_others.Given as goal

abbrev pub invariant-loop-at : goal.invariant-loop-at
invariant-loop-at l = Undoing l.child l.fn.memo l.memo l.at
