-- How far the cells of a row of a table stand from its start, and how wide they are.
use Rattle.std.proofs.Common.{◌≡◌, ◌∙◌, refl, sym, subst, max, [], ◌∷◌, ℕ, ◌^◌, ◌<◌, ◌≤◌, arith, lit≤, List, length, map, All, ℤ}
use Rattle.std.proofs.lemmas.List.Elements.{All-head, All-map, All-tail}
use Rattle.fixed_units.specs.Boxes.{IsStored, empty_box, farthest}
use Rattle.fixed_units.specs.Numbers.{IsWithin}
use Rattle.fixed_units.specs.declared.boxes.MathBox.{MathBox}
use Rattle.fixed_units.proofs.Sums.{length-list_to, sum_to_in}
use Rattle.fixed_units.proofs.Unions.{empty_box_in}
use Rattle.fixed_units.proofs.Within.{difference_in, half_in, sum_in, widened}
use Rattle.math_tables.specs.Columns.{column_at, column_count, columns_of, widest}
use Rattle.math_tables.specs.Placing.{cell_offsets_of, cell_x_of, start_of, width_at}
use Rattle.layout_model.specs.Tables.{columns_over}
use Rattle.layout_model.specs.Fits.{IsStretch}
use Rattle.layout_model.specs.declared.context.Stretch.{Stretch}
use Rattle.layout_model.specs.declared.context.Stretch.TheVariants.{Slots}
use Rattle.layout_model.specs.declared.outcome.Answer.{Answer}
use Rattle.outcomes.proofs.Kids.{cells_few}
use Rattle.outcomes.proofs.Lists.{All-at, All-list_to, number_at}

abbrev pub width_of : MathBox → ℤ
width_of frame = frame.width

abbrev cells_of : Answer → List ℤ
cells_of row = row.cells

pub widths_in : (frames : List MathBox) → All IsStored frames → All (IsWithin farthest) (map width_of frames)
widths_in frames all = All-map (IsWithin farthest) width_of frames (λ k d l. (all k d l).width)

cell_x_in : (cells : List MathBox) (widths : List ℤ) (place : ℕ) → place < 65536 → All IsStored cells → All (IsWithin farthest) widths
    → IsWithin (2 ^ 50) (cell_x_of cells widths place)
unfolding cell_x_of start_of
cell_x_in cells widths place l stored all =
    let start = widened (2 ^ 48) (sum_to_in {m = farthest} place (width_at widths) (λ i h. number_at widths i all)) (omega (arith, l)) in
    let rest = half_in (difference_in (number_at widths place all) (All-at IsStored cells place empty_box (empty_box_in farthest) stored).width) in
    widened (2 ^ 50) (sum_in start rest) (lit≤ tt)

pub cell_offsets_in : (cells : List MathBox) (widths : List ℤ) → length cells ≤ 65536 → All IsStored cells → All (IsWithin farthest) widths
    → All (IsWithin (2 ^ 61)) (cell_offsets_of cells widths)
cell_offsets_in cells widths few stored all =
    All-list_to (IsWithin (2 ^ 61)) (length cells) (cell_x_of cells widths)
    (λ i l. widened (2 ^ 61) (cell_x_in cells widths i (omega (arith, few, l)) stored all) (lit≤ tt))

-- the slots behind the width of all columns
pub slots_in : (stretch : Stretch) (numbers told slots : List ℤ) (total : ℤ) → IsStretch stretch → stretch ≡ Slots numbers → told ≡ numbers
    → told ≡ total ∷ slots → All (IsWithin (2 ^ 60)) slots
slots_in stretch numbers told slots total fits is same split =
    All-tail (IsWithin (2 ^ 60)) total slots (subst (All (IsWithin (2 ^ 60))) (sym same ∙ split) (subst IsStretch is fits))

-- a table over rows of at most so many cells has at most so many columns
pub columns_at_most : (rows : List Answer) → All cells_few rows → length (columns_over rows) ≤ 65536
unfolding columns_of
columns_at_most rows all =
    omega (arith, length-list_to (column_count (map cells_of rows)) (λ place. widest (column_at (map cells_of rows) place)), count rows all)
  where
    count : (rows : List Answer) → All cells_few rows → column_count (map cells_of rows) ≤ 65536
    count [] all = omega arith
    count (row ∷ rows) all =
        let first : length row.cells ≤ 65536 = All-head cells_few row rows all in
        let rest = count rows (All-tail cells_few row rows all) in
        let wider : column_count (map cells_of (row ∷ rows)) ≡ max (length row.cells) (column_count (map cells_of rows)) = refl in
        omega (arith, first, rest, wider)
