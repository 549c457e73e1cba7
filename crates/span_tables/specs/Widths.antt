-- The widths of columns: those of cells that span one column, and what wider cells lack.
use Rattle.std.specs.Prelude.{ℕ, ◌+◌, ◌-◌, ◌/◌, ◌%◌, ◌^◌, Bool, ◌&&◌, ◌==◌, nat_lt, nat_le, if◌then◌else◌, ℤ, pos, neg_ℤ, ◌+ℤ◌, ◌-ℤ◌, ◌≤ℤ◌, int_lt, unsigned_abs, List, [], ◌∷◌, fold, length, map, slice_index_or, Option, Some, None, unwrap_or}
use Rattle.std.specs.Int.{int_max}
use Rattle.std.specs.List.{filter}
use Rattle.fixed_units.specs.Sums.{sum_to, list_to}
use Rattle.span_tables.specs.declared.cells.SpanCell.{SpanCell}
use Rattle.span_tables.specs.declared.standing.Standing.{Standing}
use Rattle.span_tables.specs.Standing.{reach, stand_rows}

abbrev pub width_at : List ℤ → ℕ → ℤ
width_at widths column = slice_index_or widths column (pos 0)

-- ---- cells that span one column
abbrev pub is_alone : ℕ → Standing → Bool
is_alone column at = at.cell.span.columns == 1 && at.column == column

-- the widths of those that span this column alone
abbrev pub widths_alone : List Standing → ℕ → List ℤ
widths_alone cells column = map (λ at. at.cell.width) (filter (is_alone column) cells)

abbrev pub largest : List ℤ → Option ℤ
largest [] = None
largest (width ∷ widths) = Some (fold int_max width widths)

abbrev pub base_width_of : List Standing → ℕ → ℤ
base_width_of cells column = unwrap_or (largest (widths_alone cells column)) (pos 0)

abbrev pub base_widths_of : List Standing → List ℤ
base_widths_of cells = list_to (reach cells) (base_width_of cells)

-- ---- cells that span several
-- what `count` columns take together, from `first` on
unfoldable pub width_over : List ℤ → ℕ → ℕ → ℤ
width_over widths first count = sum_to count (λ place. width_at widths (first + place))

-- what the column at a place of `count` ones gets of a lack: the first ones one unit more
unfoldable pub share_of : ℕ → ℕ → ℕ → ℕ
share_of lack count place = lack / count + (if nat_lt place (lack % count) then 1 else 0)

-- the columns of a cell, each with its share of a lack, and all others
abbrev pub shared : List ℤ → ℕ → ℕ → ℕ → List ℤ
shared widths first count lack = list_to (length widths) (λ column.
    if nat_le first column && nat_lt column (first + count)
    then width_at widths column +ℤ pos (share_of lack count (column - first))
    else width_at widths column)

-- where a cell over several columns exceeds their sum, they get the lack
abbrev pub widened_by : List ℤ → Standing → List ℤ
widened_by widths at =
    let lack = at.cell.width -ℤ width_over widths at.column at.cell.span.columns in
    if nat_lt 1 at.cell.span.columns && int_lt (pos 0) lack
    then shared widths at.column at.cell.span.columns (unsigned_abs lack)
    else widths

-- all cells in document order
abbrev pub widened_all : List ℤ → List Standing → List ℤ
widened_all widths cells = fold widened_by widths cells

abbrev pub span_columns_of : List (List SpanCell) → List (List ℕ) → List ℤ
span_columns_of rows firsts =
    let cells = stand_rows 0 rows firsts in widened_all (base_widths_of cells) cells

-- ---- how wide a column may become
pub record IsColumn (width : ℤ) : Type 0 where
  pub low : neg_ℤ (pos (2 ^ 30)) ≤ℤ width
  pub high : width ≤ℤ pos (2 ^ 36)
