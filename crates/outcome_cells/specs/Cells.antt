-- The cells of an outcome: its numbers in a fixed order, each list behind its length.
use Rattle.std.specs.Prelude.{◌≡◌, ⊤, ℕ, ℤ, pos, List, [], ◌∷◌, ◌++◌, length, map, ◌<◌, ◌^◌}
use Rattle.std.specs.List.{All, flat_map}
use Rattle.fixed_units.specs.declared.boxes.MathBox.{MathBox}
use Rattle.op_dictionary.specs.declared.operator.Axis.{Axis}
use Rattle.op_dictionary.specs.declared.operator.Axis.TheVariants.{Block, Inline}
use Rattle.font_metrics.specs.declared.mark.Mark.{Mark}
use Rattle.font_metrics.specs.declared.mark.Mark.TheVariants.{Built, Glyph, Rule}
use Rattle.span_tables.specs.declared.cells.CellSpan.{CellSpan}
use Rattle.box_pool.specs.declared.cell.Cell.{Cell}
use Rattle.layout_model.specs.declared.outcome.Offset.{Offset}
use Rattle.layout_model.specs.declared.outcome.Outcome.{Outcome}

-- ---- the numbers of each part

-- the seven fields of a box
abbrev pub frame_numbers : MathBox → List ℤ
frame_numbers f =
    f.width ∷ f.ascent ∷ f.descent ∷ f.ink_ascent ∷ f.ink_descent ∷ f.italic ∷ f.accent ∷ []

abbrev pub own_number : ℤ → List ℤ
own_number n = n ∷ []

abbrev pub span_numbers : CellSpan → List ℤ
span_numbers s = pos s.columns ∷ pos s.rows ∷ s.ascent ∷ s.descent ∷ []

abbrev pub offset_numbers : Offset → List ℤ
offset_numbers o = pos o.kid ∷ o.x ∷ o.y ∷ []

abbrev pub axis_number : Axis → ℕ
axis_number Block = 0
axis_number Inline = 1

-- 0, 1 or 2 for its kind, then its fields
abbrev pub mark_numbers : Mark → List ℤ
mark_numbers (Glyph x y size glyph) = pos 0 ∷ x ∷ y ∷ size ∷ pos glyph.0 ∷ []
mark_numbers (Rule x y width height) = pos 1 ∷ x ∷ y ∷ width ∷ height ∷ []
mark_numbers (Built x y size axis glyph count overlap) =
    pos 2 ∷ x ∷ y ∷ size ∷ pos (axis_number axis) ∷ pos glyph.0 ∷ count ∷ overlap ∷ []

-- a list: how many items, and the numbers of each
abbrev pub list_numbers : {X : Type 0} → (X → List ℤ) → List X → List ℤ
list_numbers of xs = pos (length xs) ∷ flat_map of xs

-- ---- an outcome

-- the offsets of the children, and the marks
abbrev pub drawn_numbers : Outcome → List ℤ
drawn_numbers o = list_numbers offset_numbers o.offsets ++ list_numbers mark_numbers o.marks

-- the widths of the cells of a row of a table, and what they span, then the offsets and the marks
abbrev pub listed_numbers : Outcome → List ℤ
listed_numbers o =
    list_numbers own_number o.answer.cells
    ++ (list_numbers span_numbers o.answer.spans ++ drawn_numbers o)

-- the box of the answer and its two spaces, then the lists
abbrev pub outcome_numbers : Outcome → List ℤ
outcome_numbers o =
    frame_numbers o.answer.frame ++ (o.answer.before ∷ o.answer.after ∷ listed_numbers o)

-- numbers in cells, one in each
abbrev pub in_cells : List ℤ → List Cell
in_cells numbers = map (λ (n : ℤ). let c : Cell = record { 0 = n } in c) numbers

-- the cells of an outcome
abbrev pub outcome_cells : Outcome → List Cell
outcome_cells o = in_cells (outcome_numbers o)

-- ---- outcomes whose counts, places and glyphs are numbers that their fields can hold

abbrev pub IsSpanHeld : CellSpan → Type 0
IsSpanHeld s = (s.columns < 2 ^ 32) × (s.rows < 2 ^ 32)

abbrev pub IsOffsetHeld : Offset → Type 0
IsOffsetHeld o = o.kid < 2 ^ 32

abbrev pub IsMarkHeld : Mark → Type 0
IsMarkHeld (Glyph x y size glyph) = glyph.0 < 2 ^ 16
IsMarkHeld (Rule x y width height) = ⊤
IsMarkHeld (Built x y size axis glyph count overlap) = glyph.0 < 2 ^ 16

pub record IsHeld (o : Outcome) : Type 0 where
  pub spans : All IsSpanHeld o.answer.spans
  pub offsets : All IsOffsetHeld o.offsets
  pub marks : All IsMarkHeld o.marks

-- these are the cells of such an outcome
pub record AreOfOutcome (cells : List Cell) : Type 0 where
  pub outcome : Outcome
  pub held : IsHeld outcome
  pub cells_are : cells ≡ outcome_cells outcome
