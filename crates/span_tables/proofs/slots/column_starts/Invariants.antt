use Rattle.std.proofs.Common.{◌≡◌, ◌+◌}
use Rattle.fixed_units.specs.Sums.{list_to}
use Rattle.span_tables.specs.Widths.{width_over}
use Rattle.span_tables.proofs.slots.column_starts.Given as goal

-- where the columns so far begin, and the next one
abbrev pub invariant-loop-width : goal.invariant-loop-width
invariant-loop-width l = record {
  starts : l.starts ≡ list_to (l.width-index + 1) (width_over l.width-items 0);
  start : l.start ≡ width_over l.width-items 0 l.width-index;
}
