use Rattle.std.proofs.Common.{◌≡◌, take, ◌++◌}
use Rattle.placement.specs.Placing.{marks_at}
use Rattle.placement.proofs.placing.place_marks.Given as goal

-- the marks so far
abbrev pub invariant-loop-mark : goal.invariant-loop-mark
invariant-loop-mark l = l.items ≡ l.fn.items ++ marks_at l.x l.y (take l.mark-index l.marks)
