-- How far the shifts of fractions reach.
use Rattle.std.proofs.Common.{ℕ, ◌*◌, ◌+◌, ◌^◌, ◌≤◌, arith, ℤ, lit≤}
use Rattle.fixed_units.specs.Boxes.{IsStored}
use Rattle.fixed_units.specs.Numbers.{IsWithin, halved}
use Rattle.fixed_units.specs.declared.boxes.MathBox.{MathBox}
use Rattle.fixed_units.proofs.Rounding.{halved-parts}
use Rattle.fixed_units.proofs.Signed.{signed}
use Rattle.fixed_units.proofs.Within.{natural_in, widened, sum_in, difference_in, max_in, half_in, product_in}
use Rattle.fractions.specs.declared.lengths.RuleLengths.{RuleLengths}
use Rattle.fractions.specs.declared.lengths.StackLengths.{StackLengths}
use Rattle.fractions.specs.Lengths.{AreRuleLengthsWithin, AreStackLengthsWithin}
use Rattle.fractions.specs.declared.parts.Shifts.{Shifts}
use Rattle.fractions.specs.Placing.{placed_of}
use Rattle.fractions.specs.Equation.{clear_shift_of, rule_shifts_of, lack_of, stack_shifts_of, AreShiftsWithin}

-- half of a number reaches half as far
pub halved_in : {n : ℕ} (m : ℕ) {a : ℤ} → IsWithin n a → n ≤ 2 * m → IsWithin m (halved a)
halved_in m p small = record { low = omega (arith, signed, halved-parts); high = omega (arith, signed, halved-parts) }

clear_shift_in : {usual gap ink edge : ℤ} → IsWithin (2 ^ 32) usual → IsWithin (2 ^ 32) gap → IsWithin (2 ^ 30) ink
    → IsWithin (2 ^ 32 + 10 ^ 9 * 2 ^ 31) edge → IsWithin (2 ^ 61) (clear_shift_of usual gap ink edge)
unfolding clear_shift_of
clear_shift_in u g i e = widened (2 ^ 61) (max_in u (sum_in (sum_in g i) e)) (lit≤ tt)

pub rule_shifts_in : (font : RuleLengths) (top bottom : MathBox) (thickness : ℤ)
    → AreRuleLengthsWithin (2 ^ 32) font → IsStored top → IsStored bottom → IsWithin (10 ^ 9 * 2 ^ 32) thickness
    → AreShiftsWithin (2 ^ 61) (rule_shifts_of font top bottom thickness)
unfolding rule_shifts_of
rule_shifts_in font top bottom thickness f p q t =
    let reach : IsWithin (10 ^ 9 * 2 ^ 31) (halved thickness) = halved_in (10 ^ 9 * 2 ^ 31) t (lit≤ tt) in
    record {
      up = clear_shift_in f.shift_up f.gap_above p.ink_descent (sum_in f.axis reach);
      down = clear_shift_in f.shift_down f.gap_below q.ink_ascent (difference_in reach f.axis);
    }

pub lack_in : (font : StackLengths) (top bottom : MathBox)
    → AreStackLengthsWithin (2 ^ 32) font → IsStored top → IsStored bottom → IsWithin (2 ^ 34) (lack_of font top bottom)
unfolding lack_of
lack_in font top bottom f p q =
    let gap = sum_in (difference_in f.shift_up p.ink_descent) (difference_in f.shift_down q.ink_ascent) in
    widened (2 ^ 34) (max_in (difference_in f.gap gap) (natural_in 0)) (lit≤ tt)

pub stack_shifts_in : (font : StackLengths) (top bottom : MathBox)
    → AreStackLengthsWithin (2 ^ 32) font → IsStored top → IsStored bottom
    → AreShiftsWithin (2 ^ 61) (stack_shifts_of font top bottom)
unfolding stack_shifts_of
stack_shifts_in font top bottom f p q =
    let lack = lack_in font top bottom f p q in
    record {
      up = widened (2 ^ 61) (sum_in f.shift_up (half_in lack)) (lit≤ tt);
      down = widened (2 ^ 61) (sum_in f.shift_down (difference_in lack (half_in lack))) (lit≤ tt);
    }

-- how wide the parts are together
pub placed_width_in : (top bottom : MathBox) (shifts : Shifts) → IsStored top → IsStored bottom
    → IsWithin (2 ^ 32) (placed_of top bottom shifts).frame.width
unfolding placed_of
placed_width_in top bottom shifts p q =
    widened (2 ^ 32) (sum_in (max_in p.width q.width) (product_in (natural_in 2) (natural_in 1024))) (lit≤ tt)
