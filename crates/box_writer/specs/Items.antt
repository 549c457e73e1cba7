-- What stands on the page: boxes of elements and marks, each at its place.
use Rattle.std.specs.Prelude.{◌<◌, ℤ, ◌+ℤ◌, length}
use Rattle.fixed_units.specs.declared.boxes.MathBox.{MathBox}
use Rattle.font_metrics.specs.Metrics.{MetricsValue}
use Rattle.font_metrics.specs.declared.glyph.GlyphId.{GlyphId}
use Rattle.font_metrics.specs.declared.mark.Mark.{Mark}
use Rattle.font_metrics.specs.declared.mark.Mark.TheVariants.{Glyph, Rule, Built}
use Rattle.math_tree.specs.declared.node.Head.{Head}
use Rattle.box_writer.specs.declared.placed.PlacedItem.{PlacedItem}
use Rattle.box_writer.specs.declared.placed.PlacedItem.TheVariants.{Frame, Drawn}

-- an element's box with its baseline's start at a place
abbrev pub box_of : Head → ℤ → ℤ → MathBox → PlacedItem
box_of head x y frame = Frame
    (record { id = head.id; name = head.name; x = x; y = y; frame = frame })

-- where a mark stands
abbrev pub x_of : Mark → ℤ
x_of (Glyph x y size glyph) = x
x_of (Rule x y width height) = x
x_of (Built x y size axis glyph count overlap) = x

abbrev pub y_of : Mark → ℤ
y_of (Glyph x y size glyph) = y
y_of (Rule x y width height) = y
y_of (Built x y size axis glyph count overlap) = y

-- the same mark, so far to the right and so far down
abbrev pub moved : ℤ → ℤ → Mark → Mark
moved right down (Glyph x y size glyph) = Glyph (x +ℤ right) (y +ℤ down) size glyph
moved right down (Rule x y width height) = Rule (x +ℤ right) (y +ℤ down) width height
moved right down (Built x y size axis glyph count overlap) =
    Built (x +ℤ right) (y +ℤ down) size axis glyph count overlap

-- a glyph is one of the font's
abbrev pub IsKnown : MetricsValue → GlyphId → Type 0
IsKnown metrics glyph = glyph.0 < length metrics.glyphs

-- the glyph that an item names, if it names one, is one of the font's
abbrev pub IsOfFont : MetricsValue → PlacedItem → Type 0
IsOfFont metrics (Frame placed) = Unit {0}
IsOfFont metrics (Drawn (Glyph x y size glyph)) = IsKnown metrics glyph
IsOfFont metrics (Drawn (Rule x y width height)) = Unit {0}
IsOfFont metrics (Drawn (Built x y size axis glyph count overlap)) = IsKnown metrics glyph
