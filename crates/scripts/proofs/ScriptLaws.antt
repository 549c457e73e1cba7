-- Scripts stand as low and as high as their constants want them.
use Rattle.std.proofs.Common.{arith, Bool, ℤ, pos, ◌-ℤ◌, ◌≤ℤ◌}
use Rattle.fixed_units.specs.declared.boxes.MathBox.{MathBox}
use Rattle.fixed_units.proofs.Signed.{signed}
use Rattle.font_metrics.specs.Metrics.{MetricsValue}
use Rattle.scripts.specs.Beside.{spot, sub_of, sup_of, sub_sup_of}
use Rattle.scripts.specs.declared.parts.KernFrom.{KernFrom}
use Rattle.scripts.specs.Laws.{IsLowEnough, IsHighEnough}
use Rattle.scripts.specs.Lengths.{sub_lengths_of, sup_lengths_of, pair_lengths_of}
use Rattle.scripts.specs.Shifts.{sub_shift_of, sup_shift_of, lack_of, rise_of, moved_apart_of, pair_shifts_of}
use Rattle.scripts.specs.declared.lengths.PairLengths.{PairLengths}
use Rattle.scripts.specs.declared.lengths.SubLengths.{SubLengths}
use Rattle.scripts.specs.declared.lengths.SupLengths.{SupLengths}
use Rattle.scripts.specs.declared.parts.Shifts.{Shifts}

-- ---- at their own shifts, or farther
low_enough : (font : SubLengths) (base sub : MathBox) (x down : ℤ) → sub_shift_of font base sub ≤ℤ down → IsLowEnough font base sub (spot x down)
unfolding sub_shift_of
low_enough font base sub x down h = record {
  shift = omega (arith, signed, h);
  top = omega (arith, signed, h);
  drop = omega (arith, signed, h);
}

high_enough : (font : SupLengths) (base sup : MathBox) (x up : ℤ) → sup_shift_of font base sup ≤ℤ up → IsHighEnough font base sup (spot x (pos 0 -ℤ up))
unfolding sup_shift_of
high_enough font base sup x up h = record {
  shift = omega (arith, signed, h);
  bottom = omega (arith, signed, h);
  drop = omega (arith, signed, h);
}

itself : (z : ℤ) → z ≤ℤ z
itself z = omega (arith, signed)

-- what they are moved apart moves the one down and the other up
moved_down : (font : PairLengths) (shifts : Shifts) (sub sup : MathBox) → shifts.down ≤ℤ (moved_apart_of font shifts sub sup).down
unfolding moved_apart_of rise_of lack_of
moved_down font shifts sub sup = omega (arith, signed)

moved_up : (font : PairLengths) (shifts : Shifts) (sub sup : MathBox) → shifts.up ≤ℤ (moved_apart_of font shifts sub sup).up
unfolding moved_apart_of rise_of
moved_up font shifts sub sup = omega (arith, signed)

-- ---- the laws
pub sub_low : (m : MetricsValue) (base : MathBox) (large : Bool) (script : MathBox) (from : KernFrom) (size : ℤ)
    → IsLowEnough (sub_lengths_of m size) base script (sub_of m base large script from size).sub
unfolding sub_of
sub_low m base large script from size = low_enough _ base script _ _ (itself _)

pub sub_sup_low : (m : MetricsValue) (base : MathBox) (large cramped : Bool) (sub sup : MathBox) (from : KernFrom) (size : ℤ)
    → IsLowEnough (sub_lengths_of m size) base sub (sub_sup_of m base large cramped sub sup from size).sub
unfolding sub_sup_of pair_shifts_of
sub_sup_low m base large cramped sub sup from size = low_enough _ base sub _ _ (moved_down (pair_lengths_of m size) _ sub sup)

pub sup_high : (m : MetricsValue) (base : MathBox) (large cramped : Bool) (script : MathBox) (from : KernFrom) (size : ℤ)
    → IsHighEnough (sup_lengths_of m size cramped) base script (sup_of m base large cramped script from size).sup
unfolding sup_of
sup_high m base large cramped script from size = high_enough _ base script _ _ (itself _)

pub sub_sup_high : (m : MetricsValue) (base : MathBox) (large cramped : Bool) (sub sup : MathBox) (from : KernFrom) (size : ℤ)
    → IsHighEnough (sup_lengths_of m size cramped) base sup (sub_sup_of m base large cramped sub sup from size).sup
unfolding sub_sup_of pair_shifts_of
sub_sup_high m base large cramped sub sup from size = high_enough _ base sup _ _ (moved_up (pair_lengths_of m size) _ sub sup)
