-- The largest widths as the calls keep them.
use Rattle.std.specs.Prelude.{◌≡◌, ℕ, ◌<◌, ℤ, List, ◌==◌, if◌then◌else◌, length, slice_index_or, slice_set, Option, Some, None, unwrap_or, pos}
use Rattle.std.specs.Int.{int_max}
use Rattle.span_tables.specs.declared.cells.CellSpan.{CellSpan}
use Rattle.span_tables.specs.declared.standing.Standing.{Standing}
use Rattle.span_tables.specs.Bounds.{HasSpan, IsStored}
use Rattle.span_tables.specs.Widths.{largest, widths_alone}

abbrev pub larger_of : Option ℤ → ℤ → Option ℤ
larger_of None width = Some width
larger_of (Some before) width = Some (int_max before width)

-- the largest descent, one cell more
abbrev pub deeper_of : Option ℤ → CellSpan → Option ℤ
deeper_of before cell = if cell.rows == 1 then larger_of before cell.descent else before

abbrev pub or_zero_of : Option ℤ → ℤ
or_zero_of width = unwrap_or width (pos 0)

-- a cell that spans its column alone widens it
abbrev pub widened_one : List (Option ℤ) → Standing → List (Option ℤ)
widened_one widths at =
    if at.cell.span.columns == 1
    then slice_set widths at.column (larger_of (slice_index_or widths at.column None) at.cell.width)
    else widths

-- for each column the largest width of the cells that span it alone
abbrev pub IsLargestAlone : List (Option ℤ) → List Standing → Type 0
IsLargestAlone widths cells =
    (column : ℕ) → column < length widths →
    slice_index_or widths column None ≡ largest (widths_alone cells column)

pub record IsStandingStored (at : Standing) : Type 0 where
  pub span : HasSpan at.cell
  pub stored : IsStored at.cell
