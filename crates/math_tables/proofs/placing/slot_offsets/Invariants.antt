use Rattle.std.proofs.Common.{◌≡◌, ◌^◌}
use Rattle.std.specs.List.{All}
use Rattle.fixed_units.specs.Numbers.{IsWithin}
use Rattle.fixed_units.specs.Sums.{list_to}
use Rattle.math_tables.specs.Placing.{slot_x_of}
use Rattle.math_tables.proofs.placing.slot_offsets.Given as goal

-- the cells so far are placed
abbrev pub invariant-loop-place : goal.invariant-loop-place
invariant-loop-place l = record {
  offsets : l.offsets ≡ list_to l.place (slot_x_of l.cells l.slots);
  within : All (IsWithin (2 ^ 61)) l.offsets;
}
