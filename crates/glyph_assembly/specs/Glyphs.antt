-- One glyph at a font size: its box, and how far it reaches along an axis.
use Rattle.std.specs.Prelude.{ℕ, ℤ, ◌+ℤ◌, Option, Some, None, unsigned_abs}
use Rattle.fixed_units.specs.Numbers.{halved}
use Rattle.fixed_units.specs.declared.boxes.MathBox.{MathBox}
use Rattle.font_metrics.specs.Metrics.{MetricsValue, scale_of, glyph_at}
use Rattle.font_metrics.specs.declared.glyph.Glyph.{Glyph}
use Rattle.op_dictionary.specs.declared.operator.Axis.{Axis}
use Rattle.op_dictionary.specs.declared.operator.Axis.TheVariants.{Block, Inline}

-- where an accent above the glyph stands: as the font says, else over the middle of the advance
abbrev pub accent_at : MetricsValue → Option ℤ → ℤ → ℤ → ℤ
accent_at metrics None advance size = halved advance
accent_at metrics (Some accent) advance size = scale_of metrics accent size

-- its own advance, ink, italic correction and accent; it stands as high and as deep as its ink
unfoldable pub glyph_frame : MetricsValue → Glyph → ℤ → MathBox
glyph_frame metrics glyph size =
    let advance = scale_of metrics glyph.advance size in
    let ink_ascent = scale_of metrics glyph.ink_ascent size in
    let ink_descent = scale_of metrics glyph.ink_descent size in
    record {
      width = advance;
      ascent = ink_ascent;
      descent = ink_descent;
      ink_ascent = ink_ascent;
      ink_descent = ink_descent;
      italic = scale_of metrics glyph.italic size;
      accent = accent_at metrics glyph.accent advance size;
    }

abbrev pub frame_at : MetricsValue → ℕ → ℤ → MathBox
frame_at metrics place size = glyph_frame metrics (glyph_at metrics place) size

-- how far it reaches along an axis: the height of its ink, above and below the baseline each
-- rounded by itself, or its advance
unfoldable pub glyph_reach : Axis → MetricsValue → Glyph → ℤ → ℤ
glyph_reach Block metrics glyph size =
    scale_of metrics glyph.ink_ascent size +ℤ scale_of metrics glyph.ink_descent size
glyph_reach Inline metrics glyph size = scale_of metrics glyph.advance size

abbrev pub reach_at : MetricsValue → ℕ → Axis → ℤ → ℤ
reach_at metrics place axis size = glyph_reach axis metrics (glyph_at metrics place) size

-- a length of the metrics file at a font size: it isn't negative, since the file's lengths aren't
unfoldable pub length_at : MetricsValue → ℤ → ℤ → ℕ
length_at metrics size length = unsigned_abs (scale_of metrics length size)
