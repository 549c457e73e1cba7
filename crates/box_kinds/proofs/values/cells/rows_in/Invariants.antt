use Rattle.std.proofs.Common.{◌≡◌, ◌+◌, length}
use Rattle.std.specs.List.{All}
use Rattle.span_tables.specs.Bounds.{HasSpan, IsStored, cell_count, most_cells}
use Rattle.box_kinds.proofs.values.cells.rows_in.Given as goal

-- the rows so far, and how many cells more there may be
abbrev pub invariant-loop-item : goal.invariant-loop-item
invariant-loop-item l = record {
  count : length l.rows ≡ l.item-index;
  few : cell_count l.rows + l.left ≡ most_cells;
  spans : All (All HasSpan) l.rows;
  stored : All (All IsStored) l.rows;
}
