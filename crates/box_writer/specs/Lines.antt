-- The lines of output: one for each box and each mark.
use Rattle.std.specs.Prelude.{ℕ, ℤ, List, [], ◌∷◌, ◌++◌, map, codes}
use Rattle.std.specs.Fmt.{decimal, signed_decimal}
use Rattle.std.specs.List.{flat_map}
use Rattle.doc_io.specs.Lines.{line}
use Rattle.op_dictionary.specs.declared.operator.Axis.{Axis}
use Rattle.font_metrics.specs.Metrics.{MetricsValue, name_at}
use Rattle.font_metrics.specs.Texts.{axis_text}
use Rattle.font_metrics.specs.declared.glyph.GlyphId.{GlyphId}
use Rattle.font_metrics.specs.declared.mark.Mark.{Mark}
use Rattle.font_metrics.specs.declared.mark.Mark.TheVariants.{Glyph, Rule, Built}
use Rattle.box_writer.specs.declared.placed.PlacedBox.{PlacedBox}
use Rattle.box_writer.specs.declared.placed.PlacedItem.{PlacedItem}
use Rattle.box_writer.specs.declared.placed.PlacedItem.TheVariants.{Frame, Drawn}

-- numbers as words
abbrev pub decimals : List ℤ → List (List ℕ)
decimals = map signed_decimal

-- x, y, width, ascent, descent, ink ascent, ink descent
abbrev pub box_numbers : PlacedBox → List ℤ
box_numbers box =
    let frame = box.frame in
    box.x ∷ box.y ∷ frame.width ∷ frame.ascent ∷ frame.descent
    ∷ frame.ink_ascent ∷ frame.ink_descent ∷ []

-- id, name, and these numbers
unfoldable pub box_line : PlacedBox → List ℕ
box_line box = line (codes "box") (decimal box.id.0 ∷ box.name ∷ decimals (box_numbers box))

-- x, y, font size, the glyph's name
unfoldable pub glyph_line : ℤ → ℤ → ℤ → List ℕ → List ℕ
glyph_line x y size name = line (codes "glyph") (decimals (x ∷ y ∷ size ∷ []) ++ name ∷ [])

-- x, y, width, height
unfoldable pub rule_line : ℤ → ℤ → ℤ → ℤ → List ℕ
rule_line x y width height = line (codes "rule") (decimals (x ∷ y ∷ width ∷ height ∷ []))

-- x, y, font size, axis, the base glyph's name, how often each extender is repeated, overlap
unfoldable pub built_line : ℤ → ℤ → ℤ → Axis → List ℕ → ℤ → ℤ → List ℕ
built_line x y size axis name count overlap =
    line (codes "built")
    (decimals (x ∷ y ∷ size ∷ []) ++ axis_text axis ∷ name ∷ decimals (count ∷ overlap ∷ []))

abbrev pub name_of : MetricsValue → GlyphId → List ℕ
name_of metrics glyph = name_at metrics glyph.0

abbrev pub mark_line : MetricsValue → Mark → List ℕ
mark_line metrics (Glyph x y size glyph) = glyph_line x y size (name_of metrics glyph)
mark_line metrics (Rule x y width height) = rule_line x y width height
mark_line metrics (Built x y size axis glyph count overlap) =
    built_line x y size axis (name_of metrics glyph) count overlap

abbrev pub item_line : MetricsValue → PlacedItem → List ℕ
item_line metrics (Frame placed) = box_line placed
item_line metrics (Drawn mark) = mark_line metrics mark

-- an item a line, in order
abbrev pub text_of : MetricsValue → List PlacedItem → List ℕ
text_of metrics items = flat_map (item_line metrics) items
