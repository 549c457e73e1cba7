-- Where the cells of a row stand along their columns, and the rows of a table one under the other.
use Rattle.std.specs.Prelude.{ℕ, ◌+◌, ◌*◌, ◌^◌, ℤ, pos, ◌+ℤ◌, ◌-ℤ◌, List, length, slice_index_or}
use Rattle.fixed_units.specs.Boxes.{empty_box, all_joined}
use Rattle.fixed_units.specs.Numbers.{IsWithin, halved}
use Rattle.fixed_units.specs.Sums.{sum_to, list_to}
use Rattle.fixed_units.specs.declared.boxes.MathBox.{MathBox}
use Rattle.font_metrics.specs.Metrics.{MetricsValue, constant_of}
use Rattle.font_metrics.specs.declared.constants.ConstName.TheVariants.{AxisHeight}
use Rattle.row_stretch.specs.declared.parts.Row.{Row}

abbrev pub width_at : List ℤ → ℕ → ℤ
width_at widths place = slice_index_or widths place (pos 0)

abbrev pub frame_at : List MathBox → ℕ → MathBox
frame_at frames place = slice_index_or frames place empty_box

-- ---- along a row

-- where the column at a place begins
unfoldable pub start_of : List ℤ → ℕ → ℤ
start_of widths place = sum_to place (width_at widths)

-- where the cell in it begins: in the middle
unfoldable pub cell_x_of : List MathBox → List ℤ → ℕ → ℤ
cell_x_of cells widths place =
    start_of widths place +ℤ halved (width_at widths place -ℤ (frame_at cells place).width)

abbrev pub cell_offsets_of : List MathBox → List ℤ → List ℤ
cell_offsets_of cells widths = list_to (length cells) (cell_x_of cells widths)

abbrev pub row_of_cells_of : List MathBox → List ℤ → ℤ → Row
row_of_cells_of cells widths total = record {
  frame = record (all_joined cells) { width = total; italic = pos 0; accent = halved total };
  offsets = cell_offsets_of cells widths;
}

-- ---- along a row whose cells have slots

-- where the cell at a place begins: in the middle of its slot. Of each slot the list has where it
-- begins, and then how wide it is
unfoldable pub slot_x_of : List MathBox → List ℤ → ℕ → ℤ
slot_x_of cells slots place =
    width_at slots (2 * place)
    +ℤ halved (width_at slots (2 * place + 1) -ℤ (frame_at cells place).width)

abbrev pub slot_offsets_of : List MathBox → List ℤ → List ℤ
slot_offsets_of cells slots = list_to (length cells) (slot_x_of cells slots)

abbrev pub row_of_slots_of : List MathBox → List ℤ → ℤ → Row
row_of_slots_of cells slots total = record {
  frame = record (all_joined cells) { width = total; italic = pos 0; accent = halved total };
  offsets = slot_offsets_of cells slots;
}

-- ---- down a table

-- how far a row may reach up and down: cells over several rows may make the last of them deeper
-- than any box that can be stored
pub record HasHeights (row : MathBox) : Type 0 where
  pub ascent : IsWithin (2 ^ 44) row.ascent
  pub descent : IsWithin (2 ^ 44) row.descent

-- how many columns a table may have, and how wide one may be
abbrev pub most_columns : ℕ
most_columns = 2 ^ 22

abbrev pub IsColumn : ℤ → Type 0
IsColumn width = IsWithin (2 ^ 36) width

abbrev pub height_of : MathBox → ℤ
height_of row = row.ascent +ℤ row.descent

-- how far the top of the row at a place lies below that of the table
unfoldable pub top_of : List MathBox → ℕ → ℤ
top_of rows place = sum_to place (λ i. height_of (frame_at rows i))

abbrev pub table_height_of : List MathBox → ℤ
table_height_of rows = top_of rows (length rows)

-- half of the height lies above the axis
unfoldable pub table_ascent_of : MetricsValue → List MathBox → ℤ → ℤ
table_ascent_of m rows size = halved (table_height_of rows) +ℤ constant_of m AxisHeight size

-- how far the baseline of the row at a place lies below that of a table with this ascent
unfoldable pub baseline_of : ℤ → List MathBox → ℕ → ℤ
baseline_of ascent rows place = top_of rows place +ℤ (frame_at rows place).ascent -ℤ ascent

abbrev pub baselines_below : ℤ → List MathBox → List ℤ
baselines_below ascent rows = list_to (length rows) (baseline_of ascent rows)

abbrev pub row_offsets_of : MetricsValue → List MathBox → ℤ → List ℤ
row_offsets_of m rows size = baselines_below (table_ascent_of m rows size) rows

abbrev pub table_width_of : List ℤ → ℤ
table_width_of widths = start_of widths (length widths)

abbrev pub table_frame_of : MetricsValue → List MathBox → List ℤ → ℤ → MathBox
table_frame_of m rows widths size =
    let ascent = table_ascent_of m rows size in
    let descent = table_height_of rows -ℤ ascent in
    record {
      width = table_width_of widths;
      ascent = ascent;
      descent = descent;
      ink_ascent = ascent;
      ink_descent = descent;
      italic = pos 0;
      accent = halved (table_width_of widths);
    }
