-- How many cells a table has, and how much one spans and measures.
use Rattle.std.specs.Prelude.{ℕ, ◌+◌, ◌^◌, ◌≤◌, List, [], ◌∷◌, length}
use Rattle.fixed_units.specs.Boxes.{farthest}
use Rattle.fixed_units.specs.Numbers.{IsWithin}
use Rattle.span_tables.specs.declared.cells.CellSpan.{CellSpan}
use Rattle.span_tables.specs.declared.cells.SpanCell.{SpanCell}

-- ---- how many columns and rows a cell may span, and how many cells a table may have
abbrev pub most_columns : ℕ
most_columns = 64

abbrev pub most_rows : ℕ
most_rows = 1000

abbrev pub most_cells : ℕ
most_cells = 65_536

-- ---- what holds of a cell
-- it spans a column and a row at least
pub record IsSpan (span : CellSpan) : Type 0 where
  pub columns_low : 1 ≤ span.columns
  pub columns_high : span.columns ≤ most_columns
  pub rows_low : 1 ≤ span.rows
  pub rows_high : span.rows ≤ most_rows

abbrev pub HasSpan : SpanCell → Type 0
HasSpan cell = IsSpan cell.span

-- its heights lie in the stored range
pub record IsSpanStored (span : CellSpan) : Type 0 where
  pub ascent : IsWithin farthest span.ascent
  pub descent : IsWithin farthest span.descent

-- its width does too
pub record IsStored (cell : SpanCell) : Type 0 where
  pub width : IsWithin farthest cell.width
  pub span : IsSpanStored cell.span

-- how many cells a table has
abbrev pub cell_count : List (List SpanCell) → ℕ
cell_count [] = 0
cell_count (cells ∷ rows) = length cells + cell_count rows
