-- How far scripts are moved.
use Rattle.std.proofs.Common.{◌^◌, lit≤}
use Rattle.fixed_units.specs.Boxes.{IsStored}
use Rattle.fixed_units.specs.Numbers.{IsWithin}
use Rattle.fixed_units.specs.declared.boxes.MathBox.{MathBox}
use Rattle.fixed_units.proofs.Within.{natural_in, widened, sum_in, difference_in, max_in, min_in}
use Rattle.scripts.specs.declared.lengths.PairLengths.{PairLengths}
use Rattle.scripts.specs.declared.lengths.SubLengths.{SubLengths}
use Rattle.scripts.specs.declared.lengths.SupLengths.{SupLengths}
use Rattle.scripts.specs.declared.parts.Shifts.{Shifts}
use Rattle.scripts.specs.Lengths.{AreSubLengthsWithin, AreSupLengthsWithin, ArePairLengthsWithin}
use Rattle.scripts.specs.Shifts.{sub_shift_of, sup_shift_of, lack_of, rise_of, moved_apart_of, AreShiftsWithin}

pub sub_shift_in : (font : SubLengths) (base sub : MathBox) → AreSubLengthsWithin (2 ^ 32) font → IsStored base → IsStored sub
    → IsWithin (2 ^ 34) (sub_shift_of font base sub)
unfolding sub_shift_of
sub_shift_in font base sub f b s =
    widened (2 ^ 34) (max_in (max_in f.shift (difference_in s.ink_ascent f.top_max)) (sum_in f.drop_min b.ink_descent)) (lit≤ tt)

pub sup_shift_in : (font : SupLengths) (base sup : MathBox) → AreSupLengthsWithin (2 ^ 32) font → IsStored base → IsStored sup
    → IsWithin (2 ^ 34) (sup_shift_of font base sup)
unfolding sup_shift_of
sup_shift_in font base sup f b s =
    widened (2 ^ 34) (max_in (max_in f.shift (sum_in f.bottom_min s.ink_descent)) (difference_in b.ink_ascent f.drop_max)) (lit≤ tt)

module _ (font : PairLengths) (shifts : Shifts) (sub sup : MathBox)
    (f : ArePairLengthsWithin (2 ^ 32) font) (s : AreShiftsWithin (2 ^ 34) shifts) (p : IsStored sub) (q : IsStored sup) where
  pub lack_in : IsWithin (2 ^ 36) (lack_of font shifts sub sup)
  unfolding lack_of
  lack_in =
      let gap = difference_in (difference_in s.up q.ink_descent) (difference_in p.ink_ascent s.down) in
      widened (2 ^ 36) (max_in (difference_in f.gap gap) (natural_in 0)) (lit≤ tt)

  pub rise_in : IsWithin (2 ^ 36) (rise_of font shifts sub sup)
  unfolding rise_of
  rise_in = widened (2 ^ 36) (max_in (min_in (difference_in f.bottom_max (difference_in s.up q.ink_descent)) lack_in) (natural_in 0)) (lit≤ tt)

  pub moved_apart_in : AreShiftsWithin (2 ^ 40) (moved_apart_of font shifts sub sup)
  unfolding moved_apart_of
  moved_apart_in = record {
    up = widened (2 ^ 40) (sum_in s.up rise_in) (lit≤ tt);
    down = widened (2 ^ 40) (sum_in s.down (difference_in lack_in rise_in)) (lit≤ tt);
  }
