use Rattle.std.proofs.Common.{◌≡◌, length}
use Rattle.std.specs.List.{All}
use Rattle.fixed_units.specs.Boxes.{farthest}
use Rattle.fixed_units.specs.Numbers.{IsWithin}
use Rattle.box_kinds.proofs.values.numbers.numbers_in.Given as goal

-- each item so far is a number that can be stored
abbrev pub invariant-loop-item : goal.invariant-loop-item
invariant-loop-item l = record {
  count : length l.numbers ≡ l.item-index;
  stored : All (IsWithin farthest) l.numbers;
}
