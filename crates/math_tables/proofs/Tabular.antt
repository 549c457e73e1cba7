-- Cells stand in their columns, and rows one under the other.
use Rattle.std.proofs.Common.{◌≡◌, ◌∙◌, refl, sym, ap, ℕ, ◌+◌, ◌<◌, arith, List, length, Some, ℤ, pos, ◌+ℤ◌, ◌-ℤ◌, ◌≤ℤ◌}
use Rattle.std.specs.Prelude.{slice_get}
use Rattle.std.proofs.lemmas.Option.{slice_get_within}
use Rattle.fixed_units.specs.Numbers.{halved}
use Rattle.fixed_units.specs.Sums.{list_to}
use Rattle.fixed_units.specs.declared.boxes.MathBox.{MathBox}
use Rattle.fixed_units.proofs.Rounding.{halved-parts}
use Rattle.fixed_units.proofs.Signed.{signed}
use Rattle.fixed_units.proofs.Sums.{length-list_to, slice_get-list_to}
use Rattle.font_metrics.specs.Metrics.{MetricsValue, constant_of}
use Rattle.font_metrics.specs.declared.constants.ConstName.TheVariants.{AxisHeight}
use Rattle.math_tables.specs.Laws.{StandInColumns, StandInLines}
use Rattle.math_tables.specs.Placing.{width_at, frame_at, start_of, cell_x_of, row_of_cells_of, top_of, table_height_of, table_ascent_of, baseline_of, row_offsets_of, table_frame_of}
use Rattle.math_tables.proofs.Places.{start_of-add_one, cell_x_of-is, top_of-zero, top_of-add_one, baseline_of-is}

-- what is found at a place is what stands there
found : (n : ℕ) (f : ℕ → ℤ) (i : ℕ) (x : ℤ) → slice_get (list_to n f) i ≡ Some x → (i < n) × (f i ≡ x)
found n f i x is =
    let within = slice_get_within (list_to n f) i x is in
    let h : i < n = omega (arith, length-list_to n f) in
    let here = slice_get-list_to n i f h in
    (h, cc)

-- ---- along a row
middle : (start width cell x : ℤ) → start +ℤ halved (width -ℤ cell) ≡ x
    → ((x -ℤ start) ≤ℤ ((start +ℤ width) -ℤ (x +ℤ cell))) × (((start +ℤ width) -ℤ (x +ℤ cell)) ≤ℤ ((x -ℤ start) +ℤ pos 1))
middle start width cell x e =
    let h = halved-parts (width -ℤ cell) in
    (omega (arith, signed), omega (arith, signed))

cell_in_column : (cells : List MathBox) (widths : List ℤ) (i : ℕ) (x : ℤ) → cell_x_of cells widths i ≡ x
    → ((x -ℤ start_of widths i) ≤ℤ (start_of widths (i + 1) -ℤ (x +ℤ (frame_at cells i).width)))
    × ((start_of widths (i + 1) -ℤ (x +ℤ (frame_at cells i).width)) ≤ℤ ((x -ℤ start_of widths i) +ℤ pos 1))
cell_in_column cells widths i x e =
    let at = middle (start_of widths i) (width_at widths i) (frame_at cells i).width x (sym (cell_x_of-is cells widths i) ∙ e) in
    let next = start_of-add_one widths i in
    (omega (arith, signed, at.0), omega (arith, signed, at.1))

pub stand_in_columns : (cells : List MathBox) (widths : List ℤ) (total : ℤ) → length widths ≡ length cells
    → StandInColumns cells widths (row_of_cells_of cells widths total)
unfolding start_of
stand_in_columns cells widths total each = record {
  count = length-list_to (length cells) (cell_x_of cells widths);
  ahead = λ i x is. cell_in_column cells widths i x (found (length cells) (cell_x_of cells widths) i x is).1;
}

-- ---- down a table
table_ascent_of-is : (m : MetricsValue) (rows : List MathBox) (size : ℤ)
    → table_ascent_of m rows size ≡ halved (table_height_of rows) +ℤ constant_of m AxisHeight size
unfolding table_ascent_of
table_ascent_of-is m rows size = refl

first_line : (ascent : ℤ) (rows : List MathBox) → baseline_of ascent rows 0 ≡ (frame_at rows 0).ascent -ℤ ascent
first_line ascent rows = omega (arith, signed, baseline_of-is ascent rows 0, top_of-zero rows)

next_line : (ascent : ℤ) (rows : List MathBox) (i : ℕ) (y : ℤ) → baseline_of ascent rows i ≡ y
    → baseline_of ascent rows (i + 1) ≡ y +ℤ (frame_at rows i).descent +ℤ (frame_at rows (i + 1)).ascent
next_line ascent rows i y e = omega (arith, signed, baseline_of-is ascent rows i, baseline_of-is ascent rows (i + 1), top_of-add_one rows i)

last_line : (ascent : ℤ) (rows : List MathBox) (i : ℕ) (y : ℤ) → baseline_of ascent rows i ≡ y
    → top_of rows (i + 1) -ℤ ascent ≡ y +ℤ (frame_at rows i).descent
last_line ascent rows i y e = omega (arith, signed, baseline_of-is ascent rows i, top_of-add_one rows i)

halves : (height axis ascent : ℤ) → ascent ≡ halved height +ℤ axis
    → ((ascent -ℤ axis) ≤ℤ ((height -ℤ ascent) +ℤ axis)) × (((height -ℤ ascent) +ℤ axis) ≤ℤ ((ascent -ℤ axis) +ℤ pos 1))
halves height axis ascent e =
    let h = halved-parts height in
    (omega (arith, signed), omega (arith, signed))

pub stand_in_lines : (m : MetricsValue) (rows : List MathBox) (widths : List ℤ) (size : ℤ)
    → StandInLines m rows widths size (table_frame_of m rows widths size) (row_offsets_of m rows size)
unfolding start_of
stand_in_lines m rows widths size =
    let n = length rows in
    let ascent = table_ascent_of m rows size in
    let around = halves (table_height_of rows) (constant_of m AxisHeight size) ascent (table_ascent_of-is m rows size) in
    record {
      count = length-list_to n (baseline_of ascent rows);
      first = λ h. slice_get-list_to n 0 (baseline_of ascent rows) h ∙ ap Some (first_line ascent rows);
      next = λ i y h is. slice_get-list_to n (i + 1) (baseline_of ascent rows) h
          ∙ ap Some (next_line ascent rows i y (found n (baseline_of ascent rows) i y is).1);
      last = λ i y h is. ap (λ (k : ℕ). top_of rows k -ℤ ascent) (sym h) ∙ last_line ascent rows i y (found n (baseline_of ascent rows) i y is).1;
      low = around.0;
      high = around.1;
      width = refl;
    }
