use Rattle.kept_results.specs.Ends.{stripped}
use Rattle.kept_results.proofs.Renewing.{Renewed}
use Rattle.kept_results.proofs.ends.+undo_pass.Given as goal

abbrev pub invariant-undo_all-loop-at : goal.invariant-undo_all-loop-at
invariant-undo_all-loop-at l = Renewed stripped l.fn.memo l.memo l.at
