-- How far the parts of a fraction stand above and below its baseline (MathML Core 3.3.2).
use Rattle.std.specs.Prelude.{ℕ, ℤ, pos, ◌+ℤ◌, ◌-ℤ◌}
use Rattle.std.specs.Int.{int_max}
use Rattle.fixed_units.specs.Numbers.{IsWithin, halved}
use Rattle.fixed_units.specs.declared.boxes.MathBox.{MathBox}
use Rattle.fractions.specs.declared.lengths.RuleLengths.{RuleLengths}
use Rattle.fractions.specs.declared.lengths.StackLengths.{StackLengths}
use Rattle.fractions.specs.declared.parts.Shifts.{Shifts}

-- ---- round a rule, whose middle lies on the axis

-- the usual shift, or the least one at which ink keeps its gap to the rule's edge; ink and edge
-- are measured toward the part
unfoldable pub clear_shift_of : ℤ → ℤ → ℤ → ℤ → ℤ
clear_shift_of usual gap ink edge = int_max usual (gap +ℤ ink +ℤ edge)

unfoldable pub rule_shifts_of : RuleLengths → MathBox → MathBox → ℤ → Shifts
rule_shifts_of font top bottom thickness = record {
  up = clear_shift_of font.shift_up font.gap_above top.ink_descent (font.axis +ℤ halved thickness);
  down = clear_shift_of font.shift_down font.gap_below bottom.ink_ascent (halved thickness
      -ℤ font.axis);
}

-- ---- a stack

-- what the gap between the ink lacks of the least one, at the usual shifts
unfoldable pub lack_of : StackLengths → MathBox → MathBox → ℤ
lack_of font top bottom =
    int_max (font.gap -ℤ ((font.shift_up -ℤ top.ink_descent)
    +ℤ (font.shift_down -ℤ bottom.ink_ascent))) (pos 0)

-- each part makes up for half of the lack, and the lower one for an odd unit
unfoldable pub stack_shifts_of : StackLengths → MathBox → MathBox → Shifts
stack_shifts_of font top bottom =
    let lack = lack_of font top bottom in
    record { up = font.shift_up +ℤ halved lack; down = font.shift_down +ℤ (lack -ℤ halved lack) }

pub record AreShiftsWithin (m : ℕ) (shifts : Shifts) : Type 0 where
  pub up : IsWithin m shifts.up
  pub down : IsWithin m shifts.down
