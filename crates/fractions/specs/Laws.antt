-- What holds of all fractions, in terms of where their ink and their rule lie.
use Rattle.std.specs.Prelude.{ℤ, pos, ◌+ℤ◌, ◌-ℤ◌, ◌*ℤ◌, ◌≤ℤ◌, IfSome, IsSome}
use Rattle.fixed_units.specs.Numbers.{halved}
use Rattle.fixed_units.specs.declared.boxes.MathBox.{MathBox}
use Rattle.font_metrics.specs.declared.mark.Mark.{Mark}
use Rattle.font_metrics.specs.declared.mark.Mark.TheVariants.{Rule}
use Rattle.fractions.specs.declared.lengths.RuleLengths.{RuleLengths}
use Rattle.fractions.specs.declared.parts.Fraction.{Fraction}
use Rattle.fractions.specs.declared.parts.Spot.{Spot}

-- how deep the ink of the upper part ends, and that of the lower part begins
abbrev pub ink_end : MathBox → Fraction → ℤ
ink_end top fraction = fraction.top.y +ℤ top.ink_descent

abbrev pub ink_start : MathBox → Fraction → ℤ
ink_start bottom fraction = fraction.bottom.y -ℤ bottom.ink_ascent

abbrev pub ink_gap : MathBox → MathBox → Fraction → ℤ
ink_gap top bottom fraction = ink_start bottom fraction -ℤ ink_end top fraction

-- how deep a rule begins and ends
abbrev pub upper_edge : Mark → ℤ
upper_edge (Rule x y width height) = y
upper_edge mark = pos 0

abbrev pub lower_edge : Mark → ℤ
lower_edge (Rule x y width height) = y +ℤ height
lower_edge mark = pos 0

-- 1 for an odd number, 0 for an even one
abbrev pub odd_unit : ℤ → ℤ
odd_unit n = n -ℤ pos 2 *ℤ halved n

-- there is a rule, and the least gap above it, but for an odd unit, and below it
pub record KeepsGaps (font : RuleLengths) (top bottom : MathBox) (thickness : ℤ)
    (fraction : Fraction) : Type 0 where
  pub rule : IsSome fraction.rule
  pub above : IfSome fraction.rule (λ mark. (font.gap_above -ℤ odd_unit thickness)
      ≤ℤ (upper_edge mark -ℤ ink_end top fraction))
  pub below : IfSome fraction.rule (λ mark. font.gap_below
      ≤ℤ (ink_start bottom fraction -ℤ lower_edge mark))

-- what is free ahead of a part of a width, and behind it
abbrev pub ahead : Spot → ℤ
ahead place = place.x

abbrev pub behind : ℤ → Spot → ℤ → ℤ
behind width place part = width -ℤ (place.x +ℤ part)

-- as much is free behind as ahead, or one unit more, and at least 1 px
pub record IsCentred (width : ℤ) (place : Spot) (part : ℤ) : Type 0 where
  pub margin : pos 1024 ≤ℤ ahead place
  pub low : ahead place ≤ℤ behind width place part
  pub high : behind width place part ≤ℤ (ahead place +ℤ pos 1)

pub record StandsInTheMiddle (upper lower : MathBox) (fraction : Fraction) : Type 0 where
  pub top : IsCentred fraction.frame.width fraction.top upper.width
  pub bottom : IsCentred fraction.frame.width fraction.bottom lower.width
