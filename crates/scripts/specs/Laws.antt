-- What holds of all scripts and limits, in terms of where their boxes and their ink lie.
use Rattle.std.specs.Prelude.{ℤ, pos, ◌≡◌, ◌+ℤ◌, ◌-ℤ◌, ◌≤ℤ◌, Bool, Option, Some, None, IfSome, List, [], ◌∷◌, ◌++◌}
use Rattle.fixed_units.specs.declared.boxes.MathBox.{MathBox}
use Rattle.font_metrics.specs.Metrics.{MetricsValue}
use Rattle.scripts.specs.Limits.{placed_if, under_limit_of, over_limit_of}
use Rattle.scripts.specs.declared.lengths.SubLengths.{SubLengths}
use Rattle.scripts.specs.declared.lengths.SupLengths.{SupLengths}
use Rattle.scripts.specs.declared.limits.Placed.{Placed}
use Rattle.scripts.specs.declared.parts.LimitCase.{LimitCase}
use Rattle.scripts.specs.declared.parts.Limits.{Limits}
use Rattle.scripts.specs.declared.parts.Scripted.{Scripted}
use Rattle.scripts.specs.declared.parts.Spot.{Spot}
use Rattle.scripts.specs.declared.spacing.Gap.{Gap}
use Rattle.scripts.specs.declared.spacing.Gap.TheVariants.{Limit, Stack, Accent, Bar}

-- how far the ink of the subscript begins below the end of the superscript's
abbrev pub ink_gap : MathBox → MathBox → Scripted → ℤ
ink_gap sub sup scripted =
    (scripted.sub.y -ℤ sub.ink_ascent) -ℤ (scripted.sup.y +ℤ sup.ink_descent)

-- a subscript stands as low as the constants want it: by its shift, by how high its ink reaches,
-- and by how far its baseline lies below the ink of the base
pub record IsLowEnough (font : SubLengths) (base sub : MathBox) (place : Spot) : Type 0 where
  pub shift : font.shift ≤ℤ place.y
  pub top : (sub.ink_ascent -ℤ place.y) ≤ℤ font.top_max
  pub drop : font.drop_min ≤ℤ (place.y -ℤ base.ink_descent)

-- a superscript as high: by its shift, by how low its ink reaches, and by how far its baseline lies
-- below the top of the base's ink
pub record IsHighEnough (font : SupLengths) (base sup : MathBox) (place : Spot) : Type 0 where
  pub shift : font.shift ≤ℤ (pos 0 -ℤ place.y)
  pub bottom : font.bottom_min ≤ℤ ((pos 0 -ℤ place.y) -ℤ sup.ink_descent)
  pub drop : (base.ink_ascent +ℤ place.y) ≤ℤ font.drop_max

-- ---- limits, up and down

-- how deep the ink of a part begins, and how deep it ends
abbrev pub ink_start : MathBox → Spot → ℤ
ink_start part place = place.y -ℤ part.ink_ascent

abbrev pub ink_end : MathBox → Spot → ℤ
ink_end part place = place.y +ℤ part.ink_descent

-- the least gap between the ink of a limit and that of its base
abbrev pub least_of : Gap → ℤ
least_of (Limit rise least) = least
least_of (Stack shift least) = least
least_of (Accent height) = pos 0
least_of (Bar gap extra) = gap

pub record KeepGaps (above below : Gap) (base : MathBox) (under over : Option MathBox)
    (limits : Limits) : Type 0 where
  pub below_base : IfSome under (λ part. least_of below
      ≤ℤ (ink_start part limits.under -ℤ ink_end base limits.base))
  pub above_base : IfSome over (λ part. least_of above
      ≤ℤ (ink_start base limits.base -ℤ ink_end part limits.over))

-- what a limit counts, if there is one
abbrev pub box_if : Option Placed → List MathBox
box_if None = []
box_if (Some part) = part.frame ∷ []

-- the base, and its limits as they count
abbrev pub boxes_of : MetricsValue → MathBox → Option MathBox → Option MathBox → LimitCase → Bool
    → Bool → ℤ → List MathBox
boxes_of m base under over case accent accentunder size =
    base
    ∷ box_if (placed_if (λ part. under_limit_of m base part case accentunder size) under)
    ++ box_if (placed_if (λ part. over_limit_of m base part case accent size) over)

-- ---- limits, along the line

-- a part begins inside a box of this width, and ends there
pub record IsInside (width : ℤ) (part : MathBox) (place : Spot) : Type 0 where
  pub start : pos 0 ≤ℤ place.x
  pub end : (place.x +ℤ part.width) ≤ℤ width

pub record StandInside (base : MathBox) (under over : Option MathBox) (limits : Limits) : Type 0
  where
    pub base_is : IsInside limits.frame.width base limits.base
    pub under_is : IfSome under (λ part. IsInside limits.frame.width part limits.under)
    pub over_is : IfSome over (λ part. IsInside limits.frame.width part limits.over)

-- as much of a base reaches out behind a part as ahead of it, or one unit more
pub record IsCentred (base part : MathBox) (base_at part_at : Spot) : Type 0 where
  pub low : (part_at.x -ℤ base_at.x) ≤ℤ ((base_at.x +ℤ base.width) -ℤ (part_at.x +ℤ part.width))
  pub high : ((base_at.x +ℤ base.width) -ℤ (part_at.x +ℤ part.width))
      ≤ℤ (part_at.x -ℤ base_at.x +ℤ pos 1)

-- the accent of an overscript, that of its base and that of the whole stand at one place
pub record AccentsMeet (base over : MathBox) (limits : Limits) : Type 0 where
  pub of_base : limits.base.x +ℤ base.accent ≡ limits.frame.accent
  pub of_over : limits.over.x +ℤ over.accent ≡ limits.frame.accent
