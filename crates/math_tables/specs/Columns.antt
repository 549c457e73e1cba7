-- The widths of columns, from the widths of the cells of each row.
use Rattle.std.specs.Prelude.{ℕ, max, ℤ, pos, nat_lt, if◌then◌else◌, List, [], ◌∷◌, ◌++◌, length, fold, slice_get, slice_set, slice_index_or}
use Rattle.std.specs.Int.{int_max}
use Rattle.std.specs.List.{filter_map}
use Rattle.fixed_units.specs.Sums.{list_to}

-- the widths of the cells at a place of their rows, where a row has so many
abbrev pub column_at : List (List ℤ) → ℕ → List ℤ
column_at rows place = filter_map (λ row. slice_get row place) rows

-- there are as many columns as the longest row has cells
abbrev pub column_count : List (List ℤ) → ℕ
column_count [] = 0
column_count (row ∷ rows) = max (length row) (column_count rows)

-- the largest of some widths
abbrev pub widest : List ℤ → ℤ
widest [] = pos 0
widest (width ∷ widths) = fold int_max width widths

unfoldable pub columns_of : List (List ℤ) → List ℤ
columns_of rows = list_to (column_count rows) (λ place. widest (column_at rows place))

-- columns that have room for the cells of one row more
abbrev pub widened : List ℤ → List ℤ → List ℤ
widened [] cells = cells
widened (width ∷ widths) [] = width ∷ widths
widened (width ∷ widths) (cell ∷ cells) = int_max width cell ∷ widened widths cells

-- the column at a place widened to a cell, or one more behind the last
abbrev pub widened_at : List ℤ → ℕ → ℤ → List ℤ
widened_at widths place cell =
    if nat_lt place (length widths) then slice_set widths place
    (int_max (slice_index_or widths place (pos 0)) cell)
    else widths ++ cell ∷ []
