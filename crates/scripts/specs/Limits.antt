-- The box of a base with limits, and the places of the three. Places count x from the box's start
-- and y downward from its baseline.
use Rattle.std.specs.Prelude.{ℕ, ℤ, pos, ◌+ℤ◌, ◌-ℤ◌, Bool, true, false, Option, Some, None}
use Rattle.std.specs.Int.{int_max, int_min}
use Rattle.fixed_units.specs.Boxes.{joined, raised}
use Rattle.fixed_units.specs.Numbers.{IsWithin, halved}
use Rattle.fixed_units.specs.declared.boxes.MathBox.{MathBox}
use Rattle.font_metrics.specs.Metrics.{MetricsValue}
use Rattle.scripts.specs.declared.limits.Extent.{Extent}
use Rattle.scripts.specs.declared.limits.Placed.{Placed}
use Rattle.scripts.specs.declared.parts.LimitCase.{LimitCase}
use Rattle.scripts.specs.declared.parts.LimitCase.TheVariants.{Large, Stretchy, Plain}
use Rattle.scripts.specs.declared.parts.Limits.{Limits}
use Rattle.scripts.specs.declared.parts.Spot.{Spot}
use Rattle.scripts.specs.Beside.{spot, below}
use Rattle.scripts.specs.LimitGaps.{above_of, below_of, distance_of, extra_of}

-- ---- along the line, from the start of the base

-- how far a large operator leans
unfoldable pub lean_of : MathBox → LimitCase → ℤ
lean_of base Large = base.italic
lean_of base other = pos 0

-- where a part begins that stands in the middle of the base
unfoldable pub middle_of : MathBox → MathBox → ℤ
middle_of base part = halved (base.width -ℤ part.width)

unfoldable pub under_x_of : MathBox → MathBox → LimitCase → ℤ
under_x_of base under case = middle_of base under -ℤ halved (lean_of base case)

unfoldable pub leaning_of : MathBox → MathBox → LimitCase → ℤ
leaning_of base over case = middle_of base over +ℤ halved (lean_of base case)

-- an accent stands over that of the base
unfoldable pub over_x_of : MathBox → MathBox → LimitCase → Bool → ℤ
over_x_of base over Plain true = base.accent -ℤ over.accent
over_x_of base over Plain false = leaning_of base over Plain
over_x_of base over Large accent = leaning_of base over Large
over_x_of base over Stretchy accent = leaning_of base over Stretchy

-- ---- one limit

unfoldable pub under_limit_of : MetricsValue → MathBox → MathBox → LimitCase → Bool → ℤ → Placed
under_limit_of m base under case accent size =
    let gap = below_of m case accent size in
    let depth = distance_of gap base.ink_descent under.ink_ascent in
    let part = below under depth in
    record {
      x = under_x_of base under case;
      height = pos 0 -ℤ depth;
      frame = record part { descent = part.descent +ℤ extra_of gap };
    }

unfoldable pub over_limit_of : MetricsValue → MathBox → MathBox → LimitCase → Bool → ℤ → Placed
over_limit_of m base over case accent size =
    let gap = above_of m case accent size in
    let height = distance_of gap base.ink_ascent over.ink_descent in
    let part = raised over height in
    record {
      x = over_x_of base over case accent;
      height = height;
      frame = record part { ascent = part.ascent +ℤ extra_of gap };
    }

-- ---- all parts

unfoldable pub whole_of : MathBox → Extent
whole_of base = record { start = pos 0; end = base.width; union = base }

-- with one part more, if there is one
unfoldable pub attached_of : Extent → Option Placed → Extent
attached_of extent None = extent
attached_of extent (Some part) = record {
  start = int_min extent.start part.x;
  end = int_max extent.end (part.x +ℤ part.frame.width);
  union = joined extent.union part.frame;
}

-- all parts are moved right, so that the first one begins at the start
unfoldable pub spot_in_of : ℤ → Option Placed → Spot
spot_in_of start None = spot (pos 0) (pos 0)
spot_in_of start (Some part) = spot (part.x -ℤ start) (pos 0 -ℤ part.height)

unfoldable pub limits_of : MathBox → Extent → Option Placed → Option Placed → Limits
limits_of base extent under over = record {
  frame = record extent.union {
    width = extent.end -ℤ extent.start;
    italic = pos 0;
    accent = base.accent -ℤ extent.start;
  };
  base = spot (pos 0 -ℤ extent.start) (pos 0);
  under = spot_in_of extent.start under;
  over = spot_in_of extent.start over;
}

abbrev pub placed_if : {A B : Type 0} → (A → B) → Option A → Option B
placed_if place None = None
placed_if place (Some part) = Some (place part)

abbrev pub under_over_of : MetricsValue → MathBox → Option MathBox → Option MathBox → LimitCase
    → Bool → Bool → ℤ → Limits
under_over_of m base under over case accent accentunder size =
    let below = placed_if (λ part. under_limit_of m base part case accentunder size) under in
    let above = placed_if (λ part. over_limit_of m base part case accent size) over in
    limits_of base (attached_of (attached_of (whole_of base) below) above) below above

-- ---- how far they reach
pub record IsPlacedWithin (m : ℕ) (part : Placed) : Type 0 where
  pub x : IsWithin m part.x
  pub height : IsWithin m part.height
  pub width : IsWithin m part.frame.width

pub record IsExtentWithin (m : ℕ) (extent : Extent) : Type 0 where
  pub start : IsWithin m extent.start
  pub end : IsWithin m extent.end
