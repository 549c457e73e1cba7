-- How far limits reach.
use Rattle.std.proofs.Common.{◌^◌, ℤ, lit≤, Bool, true, false, Option, Some, None, IfSome}
use Rattle.fixed_units.specs.Boxes.{IsStored}
use Rattle.fixed_units.specs.Numbers.{IsWithin}
use Rattle.fixed_units.specs.declared.boxes.MathBox.{MathBox}
use Rattle.fixed_units.proofs.Within.{natural_in, widened, sum_in, difference_in, max_in, min_in, half_in}
use Rattle.scripts.specs.declared.spacing.Gap.{Gap}
use Rattle.scripts.specs.declared.spacing.Gap.TheVariants.{Limit, Stack, Accent, Bar}
use Rattle.scripts.specs.declared.parts.LimitCase.{LimitCase}
use Rattle.scripts.specs.declared.parts.LimitCase.TheVariants.{Large, Stretchy, Plain}
use Rattle.scripts.specs.LimitGaps.{distance_of, IsGapWithin}
use Rattle.scripts.specs.declared.limits.Extent.{Extent}
use Rattle.scripts.specs.declared.limits.Placed.{Placed}
use Rattle.scripts.specs.Limits.{lean_of, middle_of, leaning_of, under_x_of, over_x_of, attached_of, IsPlacedWithin, IsExtentWithin}

pub distance_in : (gap : Gap) (base limit : ℤ) → IsGapWithin (2 ^ 32) gap → IsWithin (2 ^ 30) base → IsWithin (2 ^ 30) limit
    → IsWithin (2 ^ 34) (distance_of gap base limit)
unfolding distance_of
distance_in (Limit rise least) base limit g b l = widened (2 ^ 34) (sum_in b (max_in g.0 (sum_in g.1 l))) (lit≤ tt)
distance_in (Stack shift least) base limit g b l = widened (2 ^ 34) (max_in g.0 (sum_in (sum_in b g.1) l)) (lit≤ tt)
distance_in (Accent height) base limit g b l = widened (2 ^ 34) (sum_in (max_in b g) l) (lit≤ tt)
distance_in (Bar gap extra) base limit g b l = widened (2 ^ 34) (sum_in (sum_in b g.0) l) (lit≤ tt)

pub middle_in : (base part : MathBox) → IsStored base → IsStored part → IsWithin (2 ^ 31) (middle_of base part)
unfolding middle_of
middle_in base part b p = half_in (difference_in b.width p.width)

pub lean_in : (base : MathBox) (case : LimitCase) → IsStored base → IsWithin (2 ^ 30) (lean_of base case)
unfolding lean_of
lean_in base Large b = b.italic
lean_in base Stretchy b = widened (2 ^ 30) (natural_in 0) (lit≤ tt)
lean_in base Plain b = widened (2 ^ 30) (natural_in 0) (lit≤ tt)

pub leaning_in : (base over : MathBox) (case : LimitCase) → IsStored base → IsStored over → IsWithin (2 ^ 32) (leaning_of base over case)
unfolding leaning_of
leaning_in base over case b o = widened (2 ^ 32) (sum_in (middle_in base over b o) (half_in (lean_in base case b))) (lit≤ tt)

pub under_x_in : (base under : MathBox) (case : LimitCase) → IsStored base → IsStored under → IsWithin (2 ^ 32) (under_x_of base under case)
unfolding under_x_of
under_x_in base under case b u = widened (2 ^ 32) (difference_in (middle_in base under b u) (half_in (lean_in base case b))) (lit≤ tt)

pub over_x_in : (base over : MathBox) (case : LimitCase) (accent : Bool) → IsStored base → IsStored over
    → IsWithin (2 ^ 32) (over_x_of base over case accent)
unfolding over_x_of
over_x_in base over Plain true b o = widened (2 ^ 32) (difference_in b.accent o.accent) (lit≤ tt)
over_x_in base over Plain false b o = leaning_in base over Plain b o
over_x_in base over Large accent b o = leaning_in base over Large b o
over_x_in base over Stretchy accent b o = leaning_in base over Stretchy b o

-- an extent that is within 2 ^ 37 stays there, whatever part joins it
pub attached_in : (extent : Extent) (part : Option Placed) → IsExtentWithin (2 ^ 37) extent → IfSome part (IsPlacedWithin (2 ^ 36))
    → IsExtentWithin (2 ^ 37) (attached_of extent part)
unfolding attached_of
attached_in extent None e p = e
attached_in extent (Some part) e p = record {
  start = widened (2 ^ 37) (min_in e.start p.x) (lit≤ tt);
  end = widened (2 ^ 37) (max_in e.end (sum_in p.x p.width)) (lit≤ tt);
}
