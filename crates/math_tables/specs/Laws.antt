-- What holds of all tables.
use Rattle.std.specs.Prelude.{◌≡◌, ℕ, ◌+◌, ◌<◌, ℤ, pos, ◌+ℤ◌, ◌-ℤ◌, ◌≤ℤ◌, List, length, slice_get, Some}
use Rattle.std.specs.List.{All, Contains}
use Rattle.fixed_units.specs.Sums.{sum_to}
use Rattle.fixed_units.specs.declared.boxes.MathBox.{MathBox}
use Rattle.font_metrics.specs.Metrics.{MetricsValue, constant_of}
use Rattle.font_metrics.specs.declared.constants.ConstName.TheVariants.{AxisHeight}
use Rattle.row_stretch.specs.declared.parts.Row.{Row}
use Rattle.math_tables.specs.Placing.{width_at, frame_at}

-- one of the widths, and none of them is larger
pub record IsWidest (cells : List ℤ) (width : ℤ) : Type 0 where
  pub reached : Contains cells width
  pub bound : All (λ cell. cell ≤ℤ width) cells

-- the columns stand side by side from the start; as much of a column is free behind its cell as
-- ahead of it, or one unit more
pub record StandInColumns (cells : List MathBox) (widths : List ℤ) (row : Row) : Type 0 where
  pub count : length row.offsets ≡ length cells
  pub ahead : (place : ℕ) (x : ℤ) → slice_get row.offsets place ≡ Some x →
      let ahead = x -ℤ sum_to place (width_at widths) in
      let behind = sum_to (place + 1) (width_at widths) -ℤ (x +ℤ (frame_at cells place).width) in
      (ahead ≤ℤ behind) × (behind ≤ℤ (ahead +ℤ pos 1))

-- the top of the first row is that of the table, each next row begins where the one before ends,
-- and the last one ends where the table does; below the axis lies as much as above it, or one unit
-- more
pub record StandInLines (m : MetricsValue) (rows : List MathBox) (widths : List ℤ) (size : ℤ)
    (table : MathBox) (offsets : List ℤ) : Type 0 where
  pub count : length offsets ≡ length rows
  pub first : 0 < length rows
      → slice_get offsets 0 ≡ Some ((frame_at rows 0).ascent -ℤ table.ascent)
  pub next : (place : ℕ) (y : ℤ) → place + 1 < length rows → slice_get offsets place ≡ Some y →
      slice_get offsets (place + 1)
      ≡ Some (y +ℤ (frame_at rows place).descent +ℤ (frame_at rows (place + 1)).ascent)
  pub last : (place : ℕ) (y : ℤ) → place + 1 ≡ length rows → slice_get offsets place ≡ Some y →
      table.descent ≡ y +ℤ (frame_at rows place).descent
  pub low : (table.ascent -ℤ constant_of m AxisHeight size)
      ≤ℤ (table.descent +ℤ constant_of m AxisHeight size)
  pub high : (table.descent +ℤ constant_of m AxisHeight size)
      ≤ℤ (table.ascent -ℤ constant_of m AxisHeight size +ℤ pos 1)
  pub width : table.width ≡ sum_to (length widths) (width_at widths)
