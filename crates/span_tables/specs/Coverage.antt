-- The covered columns as the calls keep them: for each column the first row in which it is free.
use Rattle.std.specs.Prelude.{◌≡◌, ℕ, ◌+◌, ◌*◌, ◌<◌, ◌≤◌, max, Bool, ◌||◌, nat_lt, if◌then◌else◌, List, length, map, slice_index, slice_index_or, slice_set}
use Rattle.span_tables.specs.declared.cells.SpanCell.{SpanCell}
use Rattle.span_tables.specs.declared.firsts.Cover.{Cover}
use Rattle.span_tables.specs.Bounds.{most_columns}
use Rattle.span_tables.specs.Standing.{is_covered, reach, stand, firsts_along}

abbrev pub free : Cover
free = record { until = 0; end = 0 }

abbrev pub cover_at : List Cover → ℕ → Cover
cover_at covers column = slice_index_or covers column free

abbrev pub untils : List Cover → List ℕ
untils covers = map (λ cover. cover.until) covers

-- the columns that are covered in a row
abbrev pub taken_by : List ℕ → ℕ → ℕ → Bool
taken_by until row column = nat_lt row (slice_index until column)

-- from each covered column up to the end that is kept with it, all stay covered as long as it
pub record IsSound (covers : List Cover) : Type 0 where
  pub forward : (column : ℕ) → 0 < (cover_at covers column).until →
      column < (cover_at covers column).end
  pub within : (column : ℕ) → (cover_at covers column).end ≤ length covers
  pub kept : (column k : ℕ) → column ≤ k → k < (cover_at covers column).end →
      (cover_at covers column).until ≤ (cover_at covers k).until

-- an end that may be kept with a column
pub record IsEnd (covers : List Cover) (column end : ℕ) : Type 0 where
  pub forward : 0 < (cover_at covers column).until → column < end
  pub within : end ≤ length covers
  pub kept : (k : ℕ) → column ≤ k → k < end →
      (cover_at covers column).until ≤ (cover_at covers k).until

abbrev pub lengthened : List Cover → ℕ → ℕ → List Cover
lengthened covers column end =
    slice_set covers column (record (cover_at covers column) { end = end })

-- what covers a column the longer
abbrev pub raised_of : Cover → ℕ → ℕ → Cover
raised_of before row end =
    if nat_lt before.until row then record { until = row; end = end } else before

-- the columns from `first` to before `end` are covered up to a row, the others are as before
pub record IsRaised (before after : List Cover) (first end row : ℕ) : Type 0 where
  pub count : length after ≡ length before
  pub inside : (column : ℕ) → first ≤ column → column < end →
      cover_at after column ≡ raised_of (cover_at before column) row end
  pub ahead : (column : ℕ) → column < first → cover_at after column ≡ cover_at before column
  pub behind : (column : ℕ) → end ≤ column → cover_at after column ≡ cover_at before column

-- the first rows that are free, where columns are covered and added as needed
pub record IsCovered (before after : List ℕ) (first end row : ℕ) : Type 0 where
  pub count : length after ≡ max (length before) end
  pub inside : (column : ℕ) → first ≤ column → column < end →
      slice_index after column ≡ max (slice_index before column) row
  pub ahead : (column : ℕ) → column < first → slice_index after column ≡ slice_index before column
  pub behind : (column : ℕ) → end ≤ column → slice_index after column ≡ slice_index before column

-- a row's cells stand where they are to, and cover their columns in the rows below
pub record IsRowDone (row : ℕ) (cells : List SpanCell) (before after firsts : List ℕ) : Type 0 where
  pub least : firsts ≡ firsts_along (taken_by before row) (length before) 0 cells
  pub covered : (below column : ℕ) → row < below →
      taken_by after below column
      ≡ (taken_by before below column || is_covered (stand row cells firsts) below column)
  pub count : length after ≡ max (length before) (reach (stand row cells firsts))
  pub room : length after ≤ length before + most_columns * length cells
