-- The heights of rows: those of their own cells, and what cells over several rows lack, which goes
-- to the last of them.
use Rattle.std.specs.Prelude.{ℕ, ◌+◌, ◌-◌, ◌^◌, min, ◌&&◌, nat_lt, if◌then◌else◌, ℤ, pos, neg_ℤ, ◌+ℤ◌, ◌-ℤ◌, ◌≤ℤ◌, int_lt, List, [], ◌∷◌, ◌==◌, Bool, fold, length, map, slice_index_or, slice_set, unwrap_or}
use Rattle.std.specs.List.{filter}
use Rattle.fixed_units.specs.Numbers.{IsWithin}
use Rattle.fixed_units.specs.Sums.{sum_to}
use Rattle.fixed_units.specs.Boxes.{farthest}
use Rattle.span_tables.specs.declared.cells.CellSpan.{CellSpan}
use Rattle.span_tables.specs.declared.cells.SpanCell.{SpanCell}
use Rattle.span_tables.specs.declared.cells.RowHeight.{RowHeight}
use Rattle.span_tables.specs.Widths.{largest}

-- ---- a row by itself
abbrev pub ascents_of : List CellSpan → List ℤ
ascents_of cells = map (λ cell. cell.ascent) cells

abbrev pub spans_one_row : CellSpan → Bool
spans_one_row cell = cell.rows == 1

abbrev pub descents_of : List CellSpan → List ℤ
descents_of cells = map (λ cell. cell.descent) (filter spans_one_row cells)

-- the largest ascent of its cells, and the largest descent of those that span no other row; 0 where
-- there is none
abbrev pub row_height_of : List CellSpan → RowHeight
row_height_of cells = record {
  ascent = unwrap_or (largest (ascents_of cells)) (pos 0);
  descent = unwrap_or (largest (descents_of cells)) (pos 0);
}

-- ---- rows under one another

abbrev pub no_height : RowHeight
no_height = record { ascent = pos 0; descent = pos 0 }

abbrev pub height_at : List RowHeight → ℕ → RowHeight
height_at heights row = slice_index_or heights row no_height

-- what `count` rows take together, from `first` on
unfoldable pub height_over : List RowHeight → ℕ → ℕ → ℤ
height_over heights first count =
    sum_to count (λ place. let height = height_at heights (first + place) in
    height.ascent +ℤ height.descent)

-- the row behind the last that a cell covers
abbrev pub end_row : List RowHeight → ℕ → SpanCell → ℕ
end_row heights row cell = min (row + cell.span.rows) (length heights)

-- how far below the baseline of its row the rows reach that a cell covers
abbrev pub room_below : List RowHeight → ℕ → SpanCell → ℤ
room_below heights row cell =
    let next = row + 1 in
    (height_at heights row).descent +ℤ height_over heights next (end_row heights row cell - next)

abbrev pub deepened : List RowHeight → ℕ → ℤ → List RowHeight
deepened heights row lack =
    let height = height_at heights row in
    slice_set heights row (record height { descent = height.descent +ℤ lack })

-- where the descent of a cell over several rows exceeds them, the last one gets the lack
abbrev pub deepened_by : ℕ → List RowHeight → SpanCell → List RowHeight
deepened_by row heights cell =
    let lack = cell.span.descent -ℤ room_below heights row cell in
    if nat_lt 1 cell.span.rows && int_lt (pos 0) lack
    then deepened heights (end_row heights row cell - 1) lack
    else heights

-- all cells in document order, from a row on
abbrev pub deepened_below : ℕ → List (List SpanCell) → List RowHeight → List RowHeight
deepened_below row [] heights = heights
deepened_below row (cells ∷ rows) heights =
    deepened_below (row + 1) rows (fold (deepened_by row) heights cells)

abbrev pub span_heights_of : List (List SpanCell) → List RowHeight → List RowHeight
span_heights_of rows heights = deepened_below 0 rows heights

pub record IsHeightStored (height : RowHeight) : Type 0 where
  pub ascent : IsWithin farthest height.ascent
  pub descent : IsWithin farthest height.descent

-- how deep a row may become
pub record IsRow (height : RowHeight) : Type 0 where
  pub ascent : IsWithin farthest height.ascent
  pub low : neg_ℤ (pos farthest) ≤ℤ height.descent
  pub high : height.descent ≤ℤ pos (2 ^ 42)
