-- Where the slot of each cell of a row begins, and how wide it is.
use Rattle.std.specs.Prelude.{◌≡◌, ℕ, ◌+◌, ◌-◌, ◌-ℤ◌, ◌<◌, ◌≤◌, ℤ, List, [], ◌∷◌, length, slice_index, slice_index_or}
use Rattle.fixed_units.specs.Sums.{list_to}
use Rattle.span_tables.specs.declared.cells.SpanCell.{SpanCell}
use Rattle.span_tables.specs.Widths.{width_at, width_over}

-- the columns before it, and those that its cell covers
abbrev pub slots_along : List ℤ → List SpanCell → List ℕ → List ℤ
slots_along widths [] firsts = []
slots_along widths (cell ∷ cells) [] = []
slots_along widths (cell ∷ cells) (first ∷ firsts) =
    width_over widths 0 first ∷ width_over widths first cell.span.columns
    ∷ slots_along widths cells firsts

-- the sum of the columns, and then a pair for each cell
abbrev pub slots_of : List SpanCell → List ℕ → List ℤ → List ℤ
slots_of cells firsts widths = width_over widths 0 (length widths) ∷ slots_along widths cells firsts

-- where each column begins, and where the last one ends
abbrev pub starts_of : List ℤ → List ℤ
starts_of widths = list_to (length widths + 1) (width_over widths 0)

-- the same from these
abbrev pub pairs_by : List ℤ → List SpanCell → List ℕ → List ℤ
pairs_by starts [] firsts = []
pairs_by starts (cell ∷ cells) [] = []
pairs_by starts (cell ∷ cells) (first ∷ firsts) =
    let start = width_at starts first in
    start ∷ (width_at starts (first + cell.span.columns) -ℤ start) ∷ pairs_by starts cells firsts

abbrev pub slots_by : List ℤ → List SpanCell → List ℕ → List ℤ
slots_by starts cells firsts = width_at starts (length starts - 1) ∷ pairs_by starts cells firsts

-- a first column for each cell, and its columns lie among those that are there
pub record AreInside (columns : ℕ) (cells : List SpanCell) (firsts : List ℕ) : Type 0 where
  pub each : length firsts ≡ length cells
  pub inside : (place : ℕ) (cell : SpanCell) → place < length cells →
      slice_index firsts place + (slice_index_or cells place cell).span.columns ≤ columns
