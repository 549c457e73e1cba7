-- Where the cells of a table stand.
use Rattle.std.specs.Prelude.{◌≡◌, ◌<◌, ◌≤◌, true, ℕ, zero, suc, ◌+◌, max, Bool, false, ◌&&◌, ◌||◌, nat_lt, nat_le, if◌then◌else◌, List, [], ◌∷◌, ◌++◌, length, slice_index_or}
use Rattle.span_tables.specs.declared.cells.SpanCell.{SpanCell}
use Rattle.span_tables.specs.declared.standing.Standing.{Standing}

-- the column after its last one
abbrev pub end_of : Standing → ℕ
end_of at = at.column + at.cell.span.columns

abbrev pub spans_column : Standing → ℕ → Bool
spans_column at column = nat_le at.column column && nat_lt column (end_of at)

abbrev pub spans_row : Standing → ℕ → Bool
spans_row at row = nat_le at.row row && nat_lt row (at.row + at.cell.span.rows)

-- whether some one of the cells covers a column in a row
abbrev pub is_covered : List Standing → ℕ → ℕ → Bool
is_covered [] row column = false
is_covered (at ∷ others) row column =
    spans_row at row && spans_column at column || is_covered others row column

-- how many columns the cells reach
abbrev pub reach : List Standing → ℕ
reach [] = 0
reach (at ∷ others) = max (end_of at) (reach others)

-- the cells of a row, at their first columns
abbrev pub stand : ℕ → List SpanCell → List ℕ → List Standing
stand row [] firsts = []
stand row (cell ∷ cells) [] = []
stand row (cell ∷ cells) (first ∷ firsts) =
    record { row = row; column = first; cell = cell } ∷ stand row cells firsts

-- the cells of rows that begin at a row, in document order
abbrev pub stand_rows : ℕ → List (List SpanCell) → List (List ℕ) → List Standing
stand_rows row [] firsts = []
stand_rows row (cells ∷ rows) [] = []
stand_rows row (cells ∷ rows) (firsts ∷ others) =
    stand row cells firsts ++ stand_rows (row + 1) rows others

-- the least column from `from` on that is not taken
pub record IsLeastFree (taken : ℕ → Bool) (from column : ℕ) : Type 0 where
  pub low : from ≤ column
  pub passed : (k : ℕ) → from ≤ k → k < column → taken k ≡ true
  pub free : taken column ≡ false

-- that column, where at most `count` columns from `from` on are looked at: the one behind these
-- counts as free
abbrev pub first_free_of : (ℕ → Bool) → ℕ → ℕ → ℕ
first_free_of taken from zero = from
first_free_of taken from (suc count) =
    if taken from then first_free_of taken (from + 1) count else from

-- the first columns of a row's cells: each the least that is after its predecessor's last column
-- and isn't taken. No column from `count` on is taken
abbrev pub firsts_along : (ℕ → Bool) → ℕ → ℕ → List SpanCell → List ℕ
firsts_along taken count from [] = []
firsts_along taken count from (cell ∷ cells) =
    let first = first_free_of taken from count in
    first ∷ firsts_along taken count (first + cell.span.columns) cells

-- the same of all rows from one on: in each, those columns are taken that a cell of an earlier row
-- covers, and none that no such cell reaches
abbrev pub firsts_below : ℕ → List Standing → List (List SpanCell) → List (List ℕ)
firsts_below row earlier [] = []
firsts_below row earlier (cells ∷ rows) =
    let firsts = firsts_along (is_covered earlier row) (reach earlier) 0 cells in
    firsts ∷ firsts_below (row + 1) (earlier ++ stand row cells firsts) rows

abbrev pub first_columns_of : List (List SpanCell) → List (List ℕ)
first_columns_of rows = firsts_below 0 [] rows

-- a first column for each cell
pub record IsOneEach (rows : List (List SpanCell)) (firsts : List (List ℕ)) : Type 0 where
  pub row_count : length firsts ≡ length rows
  pub cell_count : (row : ℕ) →
      length (slice_index_or firsts row []) ≡ length (slice_index_or rows row [])
