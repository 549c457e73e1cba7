use Rattle.std.proofs.Common.{length}
use Rattle.outcome_cells.specs.Cells.{IsMarkHeld, mark_numbers}
use Rattle.outcome_cells.proofs.Left.{Left}
use Rattle.outcome_cells.proofs.decode.read_marks.Given as goal

abbrev pub invariant-loop-rest : goal.invariant-loop-rest
invariant-loop-rest l = Left mark_numbers IsMarkHeld l.fn.cells l.marks l.rest

abbrev pub decreases-loop-rest : goal.decreases-loop-rest
decreases-loop-rest l = length l.rest
