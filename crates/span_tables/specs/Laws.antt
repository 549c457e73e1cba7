-- What holds of all tables.
use Rattle.std.specs.Prelude.{◌≡◌, ℕ, zero, suc, ◌+◌, ◌*◌, ◌<◌, ℤ, pos, ◌≤ℤ◌, List, [], ◌∷◌, length, take, map, slice_index, slice_index_or}
use Rattle.span_tables.specs.declared.cells.SpanCell.{SpanCell}
use Rattle.span_tables.specs.declared.cells.RowHeight.{RowHeight}
use Rattle.span_tables.specs.declared.standing.Standing.{Standing}
use Rattle.span_tables.specs.Heights.{room_below}
use Rattle.span_tables.specs.Slots.{slots_of}
use Rattle.span_tables.specs.Standing.{IsLeastFree, IsOneEach, is_covered, stand_rows, first_columns_of}
use Rattle.span_tables.specs.Widths.{width_over, span_columns_of}

abbrev pub no_cell : SpanCell
no_cell = record {
  width = pos 0;
  span = record { columns = 0; rows = 0; ascent = pos 0; descent = pos 0 };
}

abbrev pub cells_at : List (List SpanCell) → ℕ → List SpanCell
cells_at rows row = slice_index_or rows row []

abbrev pub firsts_at : List (List ℕ) → ℕ → List ℕ
firsts_at firsts row = slice_index_or firsts row []

-- the column after the last one of a cell's predecessor; of the first cell a given one
abbrev pub start_from : ℕ → List SpanCell → List ℕ → ℕ → ℕ
start_from from cells firsts zero = from
start_from from cells firsts (suc place) =
    slice_index firsts place + (slice_index_or cells place no_cell).span.columns

-- each cell has a first column: the least one that is after its predecessor's last column and isn't
-- covered by a cell of an earlier row
pub record StandWhereFree (rows : List (List SpanCell)) (firsts : List (List ℕ)) : Type 0 where
  pub each : IsOneEach rows firsts
  pub least : (row place : ℕ) → row < length rows → place < length (cells_at rows row) →
      IsLeastFree (is_covered (stand_rows 0 (take row rows) (take row firsts)) row)
      (start_from 0 (cells_at rows row) (firsts_at firsts row) place)
      (slice_index (firsts_at firsts row) place)

-- a cell is not wider than the columns that it covers
abbrev pub Fits : List ℤ → Standing → Type 0
Fits widths at = at.cell.width ≤ℤ width_over widths at.column at.cell.span.columns

-- the slots of a row, over the widths of all columns of its table
abbrev pub slots_at : List (List SpanCell) → ℕ → List ℤ
slots_at rows row =
    let firsts = first_columns_of rows in
    slots_of (cells_at rows row) (firsts_at firsts row) (span_columns_of rows firsts)

-- how wide they are together
abbrev pub slots_total : List ℤ → ℤ
slots_total slots = slice_index_or slots 0 (pos 0)

-- how wide the slot of the cell at a place is
abbrev pub slot_width : List ℤ → ℕ → ℤ
slot_width slots place = slice_index_or slots (2 * place + 2) (pos 0)

abbrev pub cell_at : List (List SpanCell) → ℕ → ℕ → SpanCell
cell_at rows row place = slice_index_or (cells_at rows row) place no_cell

-- a cell that spans nothing but its own place
pub record IsSingle (cell : SpanCell) : Type 0 where
  pub columns : cell.span.columns ≡ 1
  pub rows : cell.span.rows ≡ 1

-- ---- tables without spanning cells
-- from a number on
abbrev pub counted : ℕ → ℕ → List ℕ
counted from zero = []
counted from (suc count) = from ∷ counted (from + 1) count

abbrev pub widths_of : List (List SpanCell) → List (List ℤ)
widths_of rows = map (map (λ cell. cell.width)) rows

-- ---- down the rows
-- a cell over several rows is not deeper than the rows that it covers
abbrev pub FitsBelow : List RowHeight → ℕ → SpanCell → Type 0
FitsBelow heights row cell = 1 < cell.span.rows → cell.span.descent ≤ℤ room_below heights row cell
