use Rattle.std.proofs.Common.{length}
use Rattle.placement.proofs.Lent.{MarksPlaced}
use Rattle.placement.proofs.kept.place_kept_marks.Given as goal

-- the marks so far
abbrev pub invariant-loop-rest : goal.invariant-loop-rest
invariant-loop-rest l = MarksPlaced l.x l.y l.fn.cells l.rest l.fn.items l.items

abbrev pub decreases-loop-rest : goal.decreases-loop-rest
decreases-loop-rest l = length l.rest
