use Rattle.std.proofs.Common.{length}
use Rattle.std.specs.Prelude.{⊤}
use Rattle.outcome_cells.specs.Cells.{own_number}
use Rattle.outcome_cells.proofs.Left.{Left}
use Rattle.outcome_cells.proofs.decode.read_numbers.Given as goal

abbrev pub invariant-loop-rest : goal.invariant-loop-rest
invariant-loop-rest l = Left own_number (λ _. ⊤) l.fn.cells l.numbers l.rest

abbrev pub decreases-loop-rest : goal.decreases-loop-rest
decreases-loop-rest l = length l.rest
