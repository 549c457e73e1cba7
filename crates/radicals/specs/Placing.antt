-- The box of a radical, the places of its parts, and the marks of surd and rule. Places and marks
-- count x from the box's start, and y downward from its baseline.
use Rattle.std.specs.Prelude.{ℤ, pos, ◌+ℤ◌, ◌-ℤ◌, Bool}
use Rattle.fixed_units.specs.Boxes.{joined, raised}
use Rattle.fixed_units.specs.Numbers.{halved}
use Rattle.fixed_units.specs.declared.boxes.MathBox.{MathBox}
use Rattle.font_metrics.specs.Metrics.{MetricsValue, place_of_letter}
use Rattle.font_metrics.specs.declared.glyph.GlyphId.{GlyphId}
use Rattle.font_metrics.specs.declared.mark.Mark.TheVariants.{Rule}
use Rattle.glyph_assembly.specs.Shaping.{shaped_of, mark_of}
use Rattle.glyph_assembly.specs.declared.shapes.Shaped.{Shaped}
use Rattle.op_dictionary.specs.declared.operator.Axis.TheVariants.{Block}
use Rattle.radicals.specs.declared.lengths.RootLengths.{RootLengths}
use Rattle.radicals.specs.declared.lengths.IndexLengths.{IndexLengths}
use Rattle.radicals.specs.declared.parts.Radical.{Radical}
use Rattle.radicals.specs.declared.parts.Spot.{Spot}
use Rattle.radicals.specs.Equation.{top_of, span_of, root_frame_of, kern_before_of, root_start_of, index_height_of}
use Rattle.radicals.specs.Lengths.{root_lengths_of, index_lengths_of}

abbrev pub spot : ℤ → ℤ → Spot
spot x y = record { x = x; y = y }

-- ---- a surd over its base

-- the surd begins at a start, and its ink ends at the rule's upper edge; base and rule stand behind
-- it
unfoldable pub covered_of : RootLengths → MathBox → Shaped → GlyphId → ℤ → ℤ → Radical
covered_of font base surd glyph start size =
    let top = top_of font base in
    let behind = start +ℤ surd.frame.width in
    record {
      frame = root_frame_of font base surd.frame;
      surd = mark_of surd.shape glyph Block start (surd.frame.ink_ascent -ℤ top) size;
      index = spot (pos 0) (pos 0);
      base = spot behind (pos 0);
      rule = Rule behind (pos 0 -ℤ top) base.width font.thickness;
    }

-- the glyph of the square root sign
abbrev pub surd_glyph : MetricsValue → GlyphId
surd_glyph m = record { 0 = place_of_letter m 0x221A }

unfoldable pub root_of : MetricsValue → MathBox → ℤ → Bool → ℤ → Radical
root_of m base start display size =
    let font = root_lengths_of m size display in
    let glyph = surd_glyph m in
    covered_of font base (shaped_of m glyph.0 Block (span_of font base) size) glyph start size

abbrev pub square_root_of : MetricsValue → MathBox → Bool → ℤ → Radical
square_root_of m base display size = root_of m base (pos 0) display size

-- ---- with an index

-- the index ahead of a root that begins at a start, and raised
unfoldable pub with_index_of : Radical → ℤ → IndexLengths → MathBox → Radical
with_index_of root start font index =
    let height = index_height_of font root.frame index in
    let width = start +ℤ root.frame.width in
    let parts = joined root.frame (raised index height) in
    record root {
      frame = record parts { width = width; italic = pos 0; accent = halved width };
      index = spot (kern_before_of font) (pos 0 -ℤ height);
    }

unfoldable pub root_with_index_of : MetricsValue → MathBox → MathBox → Bool → ℤ → Radical
root_with_index_of m base index display size =
    let font = index_lengths_of m size in
    let start = root_start_of font index in
    with_index_of (root_of m base start display size) start font index
