-- What is read from the front of some cells.
use Rattle.std.specs.Prelude.{◌≡◌, ℕ, ◌*◌, ◌<◌, ℤ, pos, List, ◌∷◌, ◌++◌, length, slice_index_or, unsigned_abs, if◌then◌else◌, ◌==◌}
use Rattle.fixed_units.specs.declared.boxes.MathBox.{MathBox}
use Rattle.op_dictionary.specs.declared.operator.Axis.{Axis}
use Rattle.op_dictionary.specs.declared.operator.Axis.TheVariants.{Block, Inline}
use Rattle.font_metrics.specs.declared.mark.Mark.{Mark}
use Rattle.font_metrics.specs.declared.mark.Mark.TheVariants.{Built, Glyph, Rule}
use Rattle.span_tables.specs.declared.cells.CellSpan.{CellSpan}
use Rattle.box_pool.specs.declared.cell.Cell.{Cell}
use Rattle.layout_model.specs.declared.outcome.Offset.{Offset}
use Rattle.outcome_cells.specs.Cells.{in_cells}

-- ---- by places

-- the number in the cell at a place
abbrev pub number_in : List Cell → ℕ → ℤ
number_in cells place = (slice_index_or cells place (record { 0 = pos 0 })).0

-- it is a count below a bound
pub record IsCount (bound : ℕ) (number : ℤ) : Type 0 where
  pub count : ℕ
  pub below : count < bound
  pub is : number ≡ pos count

abbrev pub frame_in : List Cell → MathBox
frame_in cells = record {
  width = number_in cells 0;
  ascent = number_in cells 1;
  descent = number_in cells 2;
  ink_ascent = number_in cells 3;
  ink_descent = number_in cells 4;
  italic = number_in cells 5;
  accent = number_in cells 6;
}

abbrev pub span_in : List Cell → CellSpan
span_in cells = record {
  columns = unsigned_abs (number_in cells 0);
  rows = unsigned_abs (number_in cells 1);
  ascent = number_in cells 2;
  descent = number_in cells 3;
}

abbrev pub offset_in : List Cell → Offset
offset_in cells = record {
  kid = unsigned_abs (number_in cells 0);
  x = number_in cells 1;
  y = number_in cells 2;
}

abbrev pub axis_of : ℤ → Axis
axis_of number = if unsigned_abs number == 0 then Block else Inline

abbrev pub glyph_in : List Cell → Mark
glyph_in cells = Glyph (number_in cells 1) (number_in cells 2) (number_in cells 3)
    (record { 0 = unsigned_abs (number_in cells 4) })

abbrev pub rule_in : List Cell → Mark
rule_in cells =
    Rule (number_in cells 1) (number_in cells 2) (number_in cells 3) (number_in cells 4)

abbrev pub built_in : List Cell → Mark
built_in cells = Built (number_in cells 1) (number_in cells 2) (number_in cells 3)
    (axis_of (number_in cells 4)) (record { 0 = unsigned_abs (number_in cells 5) })
    (number_in cells 6) (number_in cells 7)

-- ---- one value after another

-- the cells begin with those of some value that fits
pub record BeginsWith {X : Type 0} (of : X → List ℤ) (Fits : X → Type 0) (cells : List Cell)
    : Type 0 where
  pub value : X
  pub rest : List Cell
  pub fits : Fits value
  pub cells_are : cells ≡ in_cells (of value) ++ rest

-- what is read is the value with whose cells these begin, and what is left are those after it
abbrev pub IsFirst : {X : Type 0} → (X → List ℤ) → List Cell → X → List Cell → Type 0
IsFirst {X} of cells read left = (x : X) (rest : List Cell) → cells ≡ in_cells (of x) ++ rest
    → (read ≡ x) × (left ≡ rest)

-- the cells begin with a count, and so many items of so many numbers each follow
pub record BeginsWithList (size : ℕ) (cells : List Cell) : Type 0 where
  pub count : ℕ
  pub numbers : List ℤ
  pub rest : List Cell
  pub length_is : length numbers ≡ count * size
  pub cells_are : cells ≡ in_cells (pos count ∷ numbers) ++ rest

-- what is read are the cells of these items, and what is left are those after them
abbrev pub IsFirstList : ℕ → List Cell → List Cell → List Cell → Type 0
IsFirstList size cells read left = (count : ℕ) (numbers : List ℤ) (rest : List Cell)
    → length numbers ≡ count * size → cells ≡ in_cells (pos count ∷ numbers) ++ rest
    → (read ≡ in_cells numbers) × (left ≡ rest)
