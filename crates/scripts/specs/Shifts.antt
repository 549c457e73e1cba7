-- How far scripts are moved down and up (MathML Core 3.4.1).
use Rattle.std.specs.Prelude.{ℕ, ℤ, pos, ◌+ℤ◌, ◌-ℤ◌, Bool}
use Rattle.std.specs.Int.{int_max, int_min}
use Rattle.fixed_units.specs.Numbers.{IsWithin}
use Rattle.fixed_units.specs.declared.boxes.MathBox.{MathBox}
use Rattle.font_metrics.specs.Metrics.{MetricsValue}
use Rattle.scripts.specs.declared.lengths.PairLengths.{PairLengths}
use Rattle.scripts.specs.declared.lengths.SubLengths.{SubLengths}
use Rattle.scripts.specs.declared.lengths.SupLengths.{SupLengths}
use Rattle.scripts.specs.declared.parts.Shifts.{Shifts}
use Rattle.scripts.specs.Lengths.{sub_lengths_of, sup_lengths_of, pair_lengths_of}

-- a subscript alone: its usual shift, one at which its ink reaches not too far up, one at which its
-- baseline lies far enough below the base's ink; the largest of them
unfoldable pub sub_shift_of : SubLengths → MathBox → MathBox → ℤ
sub_shift_of font base sub =
    int_max (int_max font.shift (sub.ink_ascent -ℤ font.top_max)) (font.drop_min
    +ℤ base.ink_descent)

-- a superscript alone
unfoldable pub sup_shift_of : SupLengths → MathBox → MathBox → ℤ
sup_shift_of font base sup =
    int_max (int_max font.shift (font.bottom_min +ℤ sup.ink_descent)) (base.ink_ascent
    -ℤ font.drop_max)

-- the height at which a superscript's ink begins, and that at which a subscript's ends
abbrev pub ink_bottom : Shifts → MathBox → ℤ
ink_bottom shifts sup = shifts.up -ℤ sup.ink_descent

abbrev pub ink_top : Shifts → MathBox → ℤ
ink_top shifts sub = sub.ink_ascent -ℤ shifts.down

-- what the gap between the ink of both lacks of the least one
unfoldable pub lack_of : PairLengths → Shifts → MathBox → MathBox → ℤ
lack_of font shifts sub sup =
    int_max (font.gap -ℤ (ink_bottom shifts sup -ℤ ink_top shifts sub)) (pos 0)

-- as much of it as the superscript may make up for
unfoldable pub rise_of : PairLengths → Shifts → MathBox → MathBox → ℤ
rise_of font shifts sub sup =
    int_max (int_min (font.bottom_max -ℤ ink_bottom shifts sup) (lack_of font shifts sub sup))
    (pos 0)

-- the superscript is moved up as far as it may be, and the subscript down for the rest
unfoldable pub moved_apart_of : PairLengths → Shifts → MathBox → MathBox → Shifts
moved_apart_of font shifts sub sup =
    let rise = rise_of font shifts sub sup in
    record {
      up = shifts.up +ℤ rise;
      down = shifts.down +ℤ (lack_of font shifts sub sup -ℤ rise);
    }

-- both scripts of one base
unfoldable pub pair_shifts_of : MetricsValue → ℤ → Bool → MathBox → MathBox → MathBox → Shifts
pair_shifts_of m size cramped base sub sup =
    let shifts : Shifts = record {
      up = sup_shift_of (sup_lengths_of m size cramped) base sup;
      down = sub_shift_of (sub_lengths_of m size) base sub;
    } in
    moved_apart_of (pair_lengths_of m size) shifts sub sup

pub record AreShiftsWithin (m : ℕ) (shifts : Shifts) : Type 0 where
  pub up : IsWithin m shifts.up
  pub down : IsWithin m shifts.down
