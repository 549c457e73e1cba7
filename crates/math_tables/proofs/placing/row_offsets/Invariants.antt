use Rattle.std.proofs.Common.{◌≡◌}
use Rattle.fixed_units.specs.Sums.{list_to}
use Rattle.math_tables.specs.Placing.{top_of, baseline_of}
use Rattle.math_tables.proofs.placing.row_offsets.Given as goal

-- the rows so far are placed
abbrev pub invariant-loop-row : goal.invariant-loop-row
invariant-loop-row l = record {
  offsets : l.offsets ≡ list_to l.row-index (baseline_of l.ascent l.rows);
  top : l.top ≡ top_of l.rows l.row-index;
}
