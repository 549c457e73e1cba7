use Rattle.std.proofs.Common.{◌≡◌, length}
use Rattle.std.specs.List.{All}
use Rattle.fixed_units.specs.Boxes.{IsStored}
use Rattle.box_kinds.proofs.values.boxes.boxes_in.Given as goal

-- each item so far is a box that can be stored
abbrev pub invariant-loop-item : goal.invariant-loop-item
invariant-loop-item l = record {
  count : length l.frames ≡ l.item-index;
  stored : All IsStored l.frames;
}
