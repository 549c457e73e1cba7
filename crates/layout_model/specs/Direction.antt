-- The direction of an element: from right to left, what stands in it is mirrored. Glyphs aren't
-- mirrored, nor is the order of the letters of a token.
use Rattle.std.specs.Prelude.{◌≡◌, ℤ, ◌-ℤ◌, Bool, if◌then◌else◌}
use Rattle.font_metrics.specs.declared.corner.Corner.{Corner}
use Rattle.font_metrics.specs.declared.corner.Corner.TheVariants.{TopRight, TopLeft, BottomRight, BottomLeft}
use Rattle.font_metrics.specs.declared.mark.Mark.{Mark}
use Rattle.font_metrics.specs.declared.mark.Mark.TheVariants.{Glyph, Rule, Built}

-- where a part of a width begins in a whole, seen from the other end of the whole
unfoldable pub mirrored : ℤ → ℤ → ℤ → ℤ
mirrored whole part x = (whole -ℤ x) -ℤ part

-- where a part begins in an element whose direction is from right to left or isn't, where it is
-- laid out from left to right at x
abbrev pub turned : Bool → ℤ → ℤ → ℤ → ℤ
turned rtl whole part x = if rtl then mirrored whole part x else x

-- the same of what is drawn
abbrev pub turned_mark : Bool → ℤ → ℤ → Mark → Mark
turned_mark rtl whole part (Glyph x y size glyph) = Glyph (turned rtl whole part x) y size glyph
turned_mark rtl whole part (Rule x y width height) = Rule (turned rtl whole part x) y width height
turned_mark rtl whole part (Built x y size axis glyph count overlap) =
    Built (turned rtl whole part x) y size axis glyph count overlap

-- where a mark begins
abbrev pub x_of : Mark → ℤ
x_of (Glyph x y size glyph) = x
x_of (Rule x y width height) = x
x_of (Built x y size axis glyph count overlap) = x

-- the corner on the other side
abbrev pub other_side : Corner → Corner
other_side TopRight = TopLeft
other_side TopLeft = TopRight
other_side BottomRight = BottomLeft
other_side BottomLeft = BottomRight

abbrev pub turned_corner : Bool → Corner → Corner
turned_corner rtl corner = if rtl then other_side corner else corner

-- ---- laws

-- mirroring twice is nothing
abbrev pub TwiceLaw : Type 0
TwiceLaw = (whole part x : ℤ) → mirrored whole part (mirrored whole part x) ≡ x
