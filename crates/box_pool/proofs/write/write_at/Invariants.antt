use Rattle.std.proofs.Common.{◌≡◌, ◌+◌, ◌≤◌, ◌-◌, ◌++◌, length, take}
use Rattle.box_pool.proofs.write.write_at.Given as goal

-- a front of the piece is written behind what stood there
abbrev pub invariant-loop-done : goal.invariant-loop-done
invariant-loop-done l = record {
  within : l.done ≤ length l.piece;
  front : take (l.at + l.done) l.cells ≡ take l.at l.fn.cells ++ take l.done l.piece;
}

abbrev pub decreases-loop-done : goal.decreases-loop-done
decreases-loop-done l = length l.piece - l.done
