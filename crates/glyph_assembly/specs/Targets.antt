-- How high and how deep a stretched operator is to be (MathML Core 3.2.4.3, "Layout of operators").
use Rattle.std.specs.Prelude.{◌*◌, ℤ, pos, ◌+ℤ◌, ◌-ℤ◌, ◌*ℤ◌, ◌≤ℤ◌, ◌^◌, int_lt, int_le, Bool, if◌then◌else◌, Option, Some, None, IfSome}
use Rattle.std.specs.Int.{int_max, int_min}
use Rattle.fixed_units.specs.Numbers.{IsWithin, rounded, halved}
use Rattle.fixed_units.specs.Boxes.{farthest}
use Rattle.fixed_units.specs.declared.pull.Pull.{Pull}
use Rattle.fixed_units.specs.declared.pull.Pull.TheVariants.{Free, Block, Inline}

-- an ascent and a descent
abbrev pub Span : Type 0
Span = ℤ × ℤ

abbrev pub total : Span → ℤ
total span = span.0 +ℤ span.1

-- as far above the axis of the formula as below it, and far enough to cover both
unfoldable pub evened : Span → ℤ → Span
evened span axis =
    let reach = int_max (span.0 -ℤ axis) (span.1 +ℤ axis) in
    (reach +ℤ axis, reach -ℤ axis)

-- an operator that isn't symmetric covers what it is asked to
abbrev pub covering : Span → Bool → ℤ → Span
covering span symmetric axis = if symmetric then evened span axis else span

-- where there is nothing to cover: that size, with its middle on the axis
unfoldable pub centred : ℤ → ℤ → Span
centred size axis =
    let ascent = halved size +ℤ axis in
    (ascent, size -ℤ ascent)

-- at another size: the same share of it lies above the axis as before, and it begins no lower than
-- the baseline
unfoldable pub resized : Span → ℤ → ℤ → Span
resized span size axis =
    let ascent = int_max (rounded ((span.0 -ℤ axis) *ℤ size) (total span) +ℤ axis) (pos 0) in
    (ascent, size -ℤ ascent)

-- no larger than the largest size, if there is one
abbrev pub at_most : Span → Option ℤ → ℤ → Span
at_most span None axis = span
at_most span (Some most) axis = if int_lt most (total span) then resized span most axis else span

-- no smaller than the least size, and no larger than the largest
unfoldable pub bounded : Span → ℤ → Option ℤ → ℤ → Span
bounded span least most axis =
    if int_le (total span) (pos 0) then centred least axis
    else if int_lt (total span) least then resized span least axis
    else at_most span most axis

-- the width of one that stretches to the sides
abbrev pub width_at_most : ℤ → Option ℤ → ℤ
width_at_most width None = width
width_at_most width (Some most) = int_min most width

-- what a glyph is shaped to: an ascent and a descent, or a width and 0
unfoldable pub target_of : Pull → Bool → ℤ → Option ℤ → ℤ → Span
target_of Free symmetric least most axis = (pos 0, pos 0)
target_of (Block ascent descent) symmetric least most axis =
    bounded (covering (ascent, descent) symmetric axis) least most axis
target_of (Inline width) symmetric least most axis =
    (int_max least (width_at_most width most), pos 0)

-- ---- what is asked

-- a pull that stretches, by numbers that can be stored
abbrev pub IsStretch : Pull → Type 0
IsStretch Free = ⊥
IsStretch (Block ascent descent) = IsWithin farthest ascent × IsWithin farthest descent
IsStretch (Inline width) = IsWithin farthest width

pub record AreSizes (least : ℤ) (most : Option ℤ) : Type 0 where
  pub low : pos 0 ≤ℤ least
  pub high : least ≤ℤ pos (2 ^ 28)
  pub cap : IfSome most (λ most. (least ≤ℤ most) × (most ≤ℤ pos (2 ^ 28)))

-- how far a target reaches: whatever share of it lies above the axis, it isn't long
pub record IsInReach (span : Span) : Type 0 where
  pub ascent : IsWithin (7 * 2 ^ 59) span.0
  pub descent : IsWithin (7 * 2 ^ 59) span.1
  pub total : IsWithin (2 ^ 35) (total span)
