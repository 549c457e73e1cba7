use Rattle.std.proofs.Common.{◌≡◌}
use Rattle.fixed_units.specs.Sums.{list_to}
use Rattle.math_tables.specs.Placing.{start_of, cell_x_of}
use Rattle.math_tables.proofs.placing.cell_offsets.Given as goal

-- the cells so far are placed
abbrev pub invariant-loop-place : goal.invariant-loop-place
invariant-loop-place l = record {
  offsets : l.offsets ≡ list_to l.place (cell_x_of l.cells l.widths);
  start : l.start ≡ start_of l.widths l.place;
}
