use Rattle.std.proofs.Common.{◌≡◌, length}
use Rattle.std.specs.List.{All}
use Rattle.row_stretch.specs.Equation.{IsKidStored}
use Rattle.box_kinds.proofs.kinds.row.kids_in.Given as goal

-- each item so far is a child of which all numbers can be stored
abbrev pub invariant-loop-item : goal.invariant-loop-item
invariant-loop-item l = record {
  count : length l.kids ≡ l.item-index;
  stored : All IsKidStored l.kids;
}
