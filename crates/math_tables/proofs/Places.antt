-- Where columns and rows begin, one more of them, and how far that reaches.
use Rattle.std.proofs.Common.{◌≡◌, refl, ℕ, zero, suc, ◌+◌, ◌*◌, ◌^◌, ◌<◌, ◌≤◌, arith, List, [], ◌∷◌, length, get_or, ℤ, pos, ◌+ℤ◌, ◌-ℤ◌, ◌*ℤ◌, ◌≤ℤ◌}
use Rattle.std.specs.List.{All}
use Rattle.std.proofs.lemmas.List.Elements.{All-get_or, All-head, All-tail}
use Rattle.fixed_units.specs.Boxes.{IsStored, empty_box}
use Rattle.fixed_units.specs.Numbers.{IsWithin, halved}
use Rattle.fixed_units.specs.declared.boxes.MathBox.{MathBox}
use Rattle.fixed_units.proofs.Signed.{signed}
use Rattle.fixed_units.proofs.Sums.{sum_to-zero, sum_to-add_one, sum_to_in}
use Rattle.fixed_units.proofs.Within.{natural_in, sum_in, widened}
use Rattle.math_tables.specs.Placing.{HasHeights, width_at, frame_at, start_of, cell_x_of, slot_x_of, height_of, top_of, baseline_of}

-- ---- columns
pub start_of-zero : (widths : List ℤ) → start_of widths 0 ≡ pos 0
unfolding start_of
start_of-zero widths = sum_to-zero (width_at widths)

pub start_of-add_one : (widths : List ℤ) (i : ℕ) → start_of widths (i + 1) ≡ start_of widths i +ℤ get_or widths i (pos 0)
unfolding start_of
start_of-add_one widths i = sum_to-add_one i (width_at widths)

pub width_in : {m : ℕ} (widths : List ℤ) (i : ℕ) → All (IsWithin m) widths → IsWithin m (width_at widths i)
width_in {m} [] i all = widened m (natural_in 0) (omega arith)
width_in {m} (width ∷ widths) zero all = All-head (IsWithin m) width widths all
width_in {m} (width ∷ widths) (suc i) all = width_in widths i (All-tail (IsWithin m) width widths all)

pub start_of_in : {m : ℕ} (widths : List ℤ) (n : ℕ) → All (IsWithin m) widths → IsWithin (n * m) (start_of widths n)
unfolding start_of
start_of_in widths n all = sum_to_in n (width_at widths) (λ i h. width_in widths i all)

pub cell_x_of-is : (cells : List MathBox) (widths : List ℤ) (i : ℕ)
    → cell_x_of cells widths i ≡ start_of widths i +ℤ halved (get_or widths i (pos 0) -ℤ (get_or cells i empty_box).width)
unfolding cell_x_of
cell_x_of-is cells widths i = refl

-- ---- slots
pub slot_x_of-is : (cells : List MathBox) (slots : List ℤ) (i : ℕ)
    → slot_x_of cells slots i
    ≡ width_at slots (2 * i) +ℤ halved (width_at slots (2 * i + 1) -ℤ (get_or cells i empty_box).width)
unfolding slot_x_of
slot_x_of-is cells slots i = refl

pub cell_in : (cells : List MathBox) (i : ℕ) → i < length cells → All IsStored cells → IsStored (get_or cells i empty_box)
cell_in cells i l all = All-get_or IsStored cells i empty_box l all

-- ---- rows
pub top_of-zero : (rows : List MathBox) → top_of rows 0 ≡ pos 0
unfolding top_of
top_of-zero rows = sum_to-zero _

pub top_of-add_one : (rows : List MathBox) (i : ℕ) → top_of rows (i + 1) ≡ top_of rows i +ℤ height_of (get_or rows i empty_box)
unfolding top_of
top_of-add_one rows i = sum_to-add_one i (λ j. height_of (frame_at rows j))

pub row_in : (rows : List MathBox) (i : ℕ) → i < length rows → All HasHeights rows → HasHeights (get_or rows i empty_box)
row_in rows i l all = All-get_or HasHeights rows i empty_box l all

pub height_in : (rows : List MathBox) (i : ℕ) → i < length rows → All HasHeights rows → IsWithin (2 ^ 45) (height_of (frame_at rows i))
height_in rows i l all = let row = row_in rows i l all in sum_in row.ascent row.descent

pub top_of_in : (rows : List MathBox) (n : ℕ) → n ≤ length rows → All HasHeights rows → IsWithin (n * 2 ^ 45) (top_of rows n)
unfolding top_of
top_of_in rows n l all = sum_to_in n _ (λ i h. height_in rows i (omega arith) all)

pub baseline_of-is : (ascent : ℤ) (rows : List MathBox) (i : ℕ)
    → baseline_of ascent rows i ≡ top_of rows i +ℤ (get_or rows i empty_box).ascent -ℤ ascent
unfolding baseline_of
baseline_of-is ascent rows i = refl

-- ---- a font size
pub double_size_in : (size : ℤ) → pos 0 ≤ℤ size → size ≤ℤ pos (2 ^ 20) → IsWithin (2 ^ 21) (pos 2 *ℤ size)
double_size_in size low high = record { low = omega (arith, signed); high = omega (arith, signed) }
