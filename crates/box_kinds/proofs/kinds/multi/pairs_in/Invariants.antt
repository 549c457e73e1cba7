use Rattle.std.proofs.Common.{◌≡◌, length}
use Rattle.std.specs.List.{All}
use Rattle.multiscripts.specs.Along.{IsPairStored}
use Rattle.box_kinds.proofs.kinds.multi.pairs_in.Given as goal

-- each item so far is a pair of boxes that can be stored
abbrev pub invariant-loop-item : goal.invariant-loop-item
invariant-loop-item l = record {
  count : length l.pairs ≡ l.item-index;
  stored : All IsPairStored l.pairs;
}
