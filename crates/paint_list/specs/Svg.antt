-- The SVG that shows what is painted (SVG 2): a tag a line.
use Rattle.std.specs.Prelude.{ℕ, ℤ, pos, neg_ℤ, ◌+ℤ◌, int_lt, Bool, ◌&&◌, if◌then◌else◌, List, [], ◌∷◌, ◌++◌, codes}
use Rattle.std.specs.Fmt.{signed_decimal}
use Rattle.std.specs.Int.{int_max}
use Rattle.std.specs.List.{flat_map}
use Rattle.doc_io.specs.Lines.{spaced, spaced_numbers}
use Rattle.fixed_units.specs.declared.boxes.MathBox.{MathBox}
use Rattle.font_metrics.specs.Metrics.{MetricsValue, name_at}
use Rattle.paint_list.specs.declared.paints.Paint.{Paint}
use Rattle.paint_list.specs.declared.paints.Paint.TheVariants.{Glyph, Rule}

-- the first line: what is shown begins at the root's left edge and so far below its baseline, and
-- is so wide and so high
abbrev pub window_line : ℤ → ℤ → ℤ → List ℕ
window_line top width height =
    codes "<svg xmlns=\"http://www.w3.org/2000/svg\" viewBox=\"0"
    ++ spaced_numbers (top ∷ width ∷ height ∷ [])
    ++ codes "\">\n"

-- by the root's box: from its top, as wide and as high as it is
unfoldable pub head_line : MathBox → List ℕ
head_line frame =
    window_line (neg_ℤ frame.ascent) (int_max frame.width (pos 0))
    (int_max (frame.ascent +ℤ frame.descent) (pos 0))

-- a glyph is the outline under its name, with one em as one unit: it grows to its size, and moves
-- to its place
abbrev pub use_end : ℤ → ℤ → ℤ → List ℕ
use_end x y size =
    codes "\" transform=\"translate(" ++ signed_decimal x ++ spaced (signed_decimal y)
    ++ codes ") scale("
    ++ signed_decimal size ++ codes ")\"/>\n"

abbrev pub use_line : ℤ → ℤ → ℤ → List ℕ → List ℕ
use_line x y size name = codes "<use href=\"#" ++ (name ++ use_end x y size)

abbrev pub rect_line : ℤ → ℤ → ℤ → ℤ → List ℕ
rect_line x y width height =
    codes "<rect x=\"" ++ signed_decimal x ++ codes "\" y=\"" ++ signed_decimal y
    ++ codes "\" width=\""
    ++ signed_decimal width ++ codes "\" height=\"" ++ signed_decimal height ++ codes "\"/>\n"

-- a rule is shown where it has width and height
abbrev pub is_shown : ℤ → ℤ → Bool
is_shown width height = int_lt (pos 0) width && int_lt (pos 0) height

abbrev pub rect_if_shown : ℤ → ℤ → ℤ → ℤ → List ℕ
rect_if_shown x y width height = if is_shown width height then rect_line x y width height else []

unfoldable pub paint_text : MetricsValue → Paint → List ℕ
paint_text m (Glyph x y size glyph) = use_line x y size (name_at m glyph.0)
paint_text m (Rule x y width height) = rect_if_shown x y width height

abbrev pub end_line : List ℕ
end_line = codes "</svg>\n"

-- the lines of all that is painted, in one tag
unfoldable pub svg_of : MetricsValue → MathBox → List Paint → List ℕ
svg_of m frame paints = head_line frame ++ flat_map (paint_text m) paints ++ end_line
