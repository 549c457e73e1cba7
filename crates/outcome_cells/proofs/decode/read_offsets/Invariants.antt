use Rattle.std.proofs.Common.{length}
use Rattle.outcome_cells.specs.Cells.{IsOffsetHeld, offset_numbers}
use Rattle.outcome_cells.proofs.Left.{Left}
use Rattle.outcome_cells.proofs.decode.read_offsets.Given as goal

abbrev pub invariant-loop-rest : goal.invariant-loop-rest
invariant-loop-rest l = Left offset_numbers IsOffsetHeld l.fn.cells l.offsets l.rest

abbrev pub decreases-loop-rest : goal.decreases-loop-rest
decreases-loop-rest l = length l.rest
