use Rattle.std.proofs.Common.{◌≡◌}
use Rattle.multiscripts.specs.Along.{line_at, sub_spots_of, sup_spots_of}
use Rattle.multiscripts.proofs.along.place_pairs.Given as goal

-- the pairs so far are placed
abbrev pub invariant-loop-pair : goal.invariant-loop-pair
invariant-loop-pair l = record {
  line : l.line ≡ line_at l.space l.base l.large l.pairs l.pair-index;
  subs : l.subs ≡ sub_spots_of l.space l.end l.base l.large l.pairs l.shifts.down l.pair-index;
  sups : l.sups ≡ sup_spots_of l.space l.end l.base l.large l.pairs l.shifts.up l.pair-index;
}
