-- The ink under a root keeps its gap to the rule, and nothing begins before the root's start.
use Rattle.std.proofs.Common.{◌≡◌, ℤ, pos, ◌≤ℤ◌, Bool, arith, refl, subst, sym}
use Rattle.fixed_units.specs.declared.boxes.MathBox.{MathBox}
use Rattle.fixed_units.proofs.Signed.{signed}
use Rattle.font_metrics.specs.Metrics.{MetricsValue}
use Rattle.font_metrics.specs.declared.glyph.GlyphId.{GlyphId}
use Rattle.op_dictionary.specs.declared.operator.Axis.TheVariants.{Block}
use Rattle.glyph_assembly.specs.declared.shapes.Shape.{Shape}
use Rattle.glyph_assembly.specs.declared.shapes.Shape.TheVariants.{Base, Variant, Built}
use Rattle.glyph_assembly.specs.declared.shapes.Shaped.{Shaped}
use Rattle.glyph_assembly.specs.Shaping.{mark_of}
use Rattle.radicals.specs.declared.lengths.RootLengths.{RootLengths}
use Rattle.radicals.specs.declared.lengths.IndexLengths.{IndexLengths}
use Rattle.radicals.specs.Equation.{top_of, root_start_of}
use Rattle.radicals.specs.Laws.{gap_under_rule, mark_start, BeginsInside}
use Rattle.radicals.specs.Lengths.{root_lengths_of, index_lengths_of}
use Rattle.radicals.specs.Placing.{covered_of, surd_glyph, root_of, square_root_of, with_index_of, root_with_index_of}

-- ---- the gap

covered_keeps_gap : (font : RootLengths) (base : MathBox) (surd : Shaped) (glyph : GlyphId) (start size : ℤ)
    → gap_under_rule base (covered_of font base surd glyph start size) ≡ font.gap
unfolding covered_of top_of
covered_keeps_gap font base surd glyph start size = omega (arith, signed)

root_keeps_gap : (m : MetricsValue) (base : MathBox) (start : ℤ) (display : Bool) (size : ℤ)
    → gap_under_rule base (root_of m base start display size) ≡ (root_lengths_of m size display).gap
unfolding root_of
root_keeps_gap m base start display size =
    covered_keeps_gap (root_lengths_of m size display) base _ (surd_glyph m) start size

pub square_root_keeps_gap : (m : MetricsValue) (base : MathBox) (display : Bool) (size : ℤ)
    → gap_under_rule base (square_root_of m base display size) ≡ (root_lengths_of m size display).gap
square_root_keeps_gap m base display size = root_keeps_gap m base (pos 0) display size

pub root_with_index_keeps_gap : (m : MetricsValue) (base index : MathBox) (display : Bool) (size : ℤ)
    → gap_under_rule base (root_with_index_of m base index display size) ≡ (root_lengths_of m size display).gap
unfolding root_with_index_of with_index_of
root_with_index_keeps_gap m base index display size =
    root_keeps_gap m base (root_start_of (index_lengths_of m size) index) display size

-- ---- where they begin

starts_inside : (font : IndexLengths) (index : MathBox) → pos 0 ≤ℤ root_start_of font index
unfolding root_start_of
starts_inside font index = omega (arith, signed)

mark_starts : (shape : Shape) (glyph : GlyphId) (x y size : ℤ) → mark_start (mark_of shape glyph Block x y size) ≡ x
mark_starts Base glyph x y size = refl
mark_starts (Variant larger) glyph x y size = refl
mark_starts (Built count overlap) glyph x y size = refl

surd_starts : (m : MetricsValue) (base : MathBox) (start : ℤ) (display : Bool) (size : ℤ) → mark_start (root_of m base start display size).surd ≡ start
unfolding root_of covered_of
surd_starts m base start display size = mark_starts _ (surd_glyph m) start _ size

pub begins_inside : (m : MetricsValue) (base index : MathBox) (display : Bool) (size : ℤ) → BeginsInside (root_with_index_of m base index display size)
unfolding root_with_index_of with_index_of
begins_inside m base index display size = record {
  index = omega (arith, signed);
  surd = subst (λ x. pos 0 ≤ℤ x) (sym (surd_starts m base (root_start_of (index_lengths_of m size) index) display size))
      (starts_inside (index_lengths_of m size) index);
}
