use Rattle.std.proofs.Common.{length}
use Rattle.outcome_cells.specs.Cells.{IsSpanHeld, span_numbers}
use Rattle.outcome_cells.proofs.Left.{Left}
use Rattle.outcome_cells.proofs.decode.read_spans.Given as goal

abbrev pub invariant-loop-rest : goal.invariant-loop-rest
invariant-loop-rest l = Left span_numbers IsSpanHeld l.fn.cells l.spans l.rest

abbrev pub decreases-loop-rest : goal.decreases-loop-rest
decreases-loop-rest l = length l.rest
