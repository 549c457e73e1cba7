use Rattle.std.proofs.Common.{◌≡◌, ◌^◌, take, fold, map}
use Rattle.multiscripts.specs.Heights.{alone_of, larger_of}
use Rattle.multiscripts.proofs.heights.all_shifts.Given as goal
use Rattle.scripts.specs.Shifts.{AreShiftsWithin}

-- the largest of the pairs so far
abbrev pub invariant-loop-pair : goal.invariant-loop-pair
invariant-loop-pair l = record {
  largest : l.all ≡ fold larger_of l.initial.all (map (alone_of l.metrics l.size l.cramped l.base) (take l.pair-index l.others));
  within : AreShiftsWithin (2 ^ 40) l.all;
}
