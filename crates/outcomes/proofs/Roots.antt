-- How far from its start the row under a square root begins.
use Rattle.std.proofs.Common.{◌≡◌, ◌∙◌, subst, sym, ap, ◌^◌, arith, lit<, lit≤, Bool, ℤ, pos, w64, to_z, of_z}
use Rattle.std.specs.Int.{w128}
use Rattle.fixed_units.specs.Numbers.{IsWithin}
use Rattle.fixed_units.specs.declared.boxes.MathBox.{MathBox}
use Rattle.fixed_units.proofs.Signed.{signed}
use Rattle.font_metrics.specs.Metrics.{MetricsValue}
use Rattle.radicals.specs.Equation.{IsRootBox, IsRow, root_frame_of}
use Rattle.radicals.specs.Placing.{covered_of, root_of, square_root_of}
use Rattle.radicals.specs.declared.parts.Radical.{Radical}
use Rattle.fixed_units.proofs.Within.{fits_i64, widened}
use Rattle.font_metrics.proofs.Scaling.{back64}
use Rattle.layout_model.specs.Direction.{turned}
use Rattle.outcomes.specs.Reach.{reached}
use Rattle.outcomes.proofs.Casts.{told_wide}
use Rattle.outcomes.proofs.Reach.{reached_same, turned_in}

starts : (m : MetricsValue) (row : MathBox) (display : Bool) (size : ℤ) → IsRootBox (square_root_of m row display size).frame → IsRow row
    → IsWithin (2 ^ 52) (square_root_of m row display size).base.x
unfolding root_of covered_of root_frame_of
starts m row display size r p =
    let whole = r.width in
    let under = p.width in
    record { low = omega (arith, signed, whole, under); high = omega (arith, signed, whole, under) }

pub root_start_in : (m : MetricsValue) (row : MathBox) (display : Bool) (size : ℤ) (root : Radical) → root ≡ square_root_of m row display size
    → IsRootBox root.frame → IsRow row → IsWithin (2 ^ 52) root.base.x
root_start_in m row display size root e r p =
    subst (λ (drawn : Radical). IsWithin (2 ^ 52) drawn.base.x) (sym e)
    (starts m row display size (subst (λ (drawn : Radical). IsRootBox drawn.frame) e r) p)

pub on_the_baseline : (m : MetricsValue) (row : MathBox) (display : Bool) (size : ℤ) (root : Radical) → root ≡ square_root_of m row display size
    → root.base.y ≡ pos 0
unfolding root_of covered_of
on_the_baseline m row display size root e = ap (λ (drawn : Radical). drawn.base.y) e

-- where the row under a square root begins, in the direction of the root
pub turned_start_in : (rtl : Bool) (whole part x : ℤ) → IsWithin (2 ^ 51) whole → IsWithin (2 ^ 50) part → IsWithin (2 ^ 52) x
    → IsWithin (2 ^ 54) (turned rtl whole part x)
turned_start_in rtl whole part x w p h = turned_in rtl whole part x (widened (2 ^ 52) w (lit≤ tt)) (widened (2 ^ 52) p (lit≤ tt)) h

pub start_told : (rtl : Bool) (whole part x : ℤ) → IsWithin (2 ^ 51) whole → IsWithin (2 ^ 50) part → IsWithin (2 ^ 52) x
    → (own : Bool) (wide start : ℤ) → own ≡ rtl → wide ≡ to_z w64 (of_z w64 part)
    → start ≡ reached (turned own (to_z w64 (of_z w64 whole)) (to_z w128 (of_z w128 wide)) (to_z w64 (of_z w64 x)))
    → start ≡ turned rtl whole part x
start_told rtl whole part x w p h own wide start own_is wide_is start_is =
    start_is
    ∙ (λ i. reached (turned (own_is i) (back64 w (lit< tt) i) (told_wide part wide (fits_i64 p (lit< tt)) wide_is i) (back64 h (lit< tt) i)))
    ∙ reached_same (turned rtl whole part x) (widened (2 ^ 60) (turned_start_in rtl whole part x w p h) (lit≤ tt))
