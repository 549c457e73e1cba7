-- The ink of a fraction's parts keeps its gaps, and the parts stand in the middle.
use Rattle.std.proofs.Common.{◌≡◌, refl, Bool, true, false, cond, arith, None, ℤ, pos, ◌+ℤ◌, ◌-ℤ◌, ◌≤ℤ◌, ◌<ℤ◌}
use Rattle.std.specs.Int.{int_max}
use Rattle.std.specs.Prelude.{int_lt}
use borrow.Author.Differences.{lt-true, lt-false}
use Rattle.fixed_units.specs.Boxes.{raised, joined}
use Rattle.fixed_units.specs.Numbers.{halved}
use Rattle.fixed_units.specs.declared.boxes.MathBox.{MathBox}
use Rattle.fixed_units.proofs.Rounding.{halved-parts}
use Rattle.fixed_units.proofs.Signed.{signed}
use Rattle.font_metrics.specs.Metrics.{MetricsValue}
use Rattle.fractions.specs.declared.lengths.RuleLengths.{RuleLengths}
use Rattle.fractions.specs.declared.lengths.StackLengths.{StackLengths}
use Rattle.fractions.specs.declared.parts.Shifts.{Shifts}
use Rattle.fractions.specs.Lengths.{rule_lengths_of, stack_lengths_of}
use Rattle.fractions.specs.Equation.{clear_shift_of, rule_shifts_of, lack_of, stack_shifts_of}
use Rattle.fractions.specs.Placing.{centred_of, placed_of, lower_of, with_rule_of, fraction_of}
use Rattle.fractions.specs.Laws.{KeepsGaps, ink_gap, StandsInTheMiddle}

-- ---- with a rule
clear_shift_clears : (usual gap ink edge : ℤ) → (gap +ℤ ink +ℤ edge) ≤ℤ clear_shift_of usual gap ink edge
unfolding clear_shift_of
clear_shift_clears usual gap ink edge = omega (arith, signed)

ruled_keeps_gaps : (font : RuleLengths) (top bottom : MathBox) (t : ℤ)
    → KeepsGaps font top bottom t (with_rule_of (placed_of top bottom (rule_shifts_of font top bottom t)) font.axis t)
unfolding with_rule_of placed_of rule_shifts_of lower_of
ruled_keeps_gaps font top bottom t =
    let up = clear_shift_clears font.shift_up font.gap_above top.ink_descent (font.axis +ℤ halved t) in
    let down = clear_shift_clears font.shift_down font.gap_below bottom.ink_ascent (halved t -ℤ font.axis) in
    record { rule = refl; above = omega (arith, signed); below = omega (arith, signed) }

pub keeps_gaps : (m : MetricsValue) (top bottom : MathBox) (t : ℤ) (display : Bool) (size : ℤ) → pos 0 <ℤ t
    → KeepsGaps (rule_lengths_of m size display) top bottom t (fraction_of m top bottom t display size)
keeps_gaps m top bottom t display size above = by (int_lt (pos 0) t) refl
  where
    font : RuleLengths
    font = rule_lengths_of m size display

    by : (ruled : Bool) → int_lt (pos 0) t ≡ ruled → KeepsGaps font top bottom t
        (cond ruled (with_rule_of (placed_of top bottom (rule_shifts_of font top bottom t)) font.axis t)
        (placed_of top bottom (stack_shifts_of (stack_lengths_of m size display) top bottom)))
    by true e = ruled_keeps_gaps font top bottom t
    by false e = absurd (omega (arith, signed, lt-false (pos 0) t e))

-- ---- a stack
stacked_keeps_gap : (font : StackLengths) (top bottom : MathBox)
    → font.gap ≤ℤ ink_gap top bottom (placed_of top bottom (stack_shifts_of font top bottom))
unfolding placed_of stack_shifts_of lack_of
stacked_keeps_gap font top bottom =
    let short = font.gap -ℤ ((font.shift_up -ℤ top.ink_descent) +ℤ (font.shift_down -ℤ bottom.ink_ascent)) in
    let lack : short ≤ℤ int_max short (pos 0) = omega (arith, signed) in
    omega (arith, signed)

pub stack_keeps_gap : (m : MetricsValue) (top bottom : MathBox) (t : ℤ) (display : Bool) (size : ℤ) → t ≤ℤ pos 0
    → (stack_lengths_of m size display).gap ≤ℤ ink_gap top bottom (fraction_of m top bottom t display size)
stack_keeps_gap m top bottom t display size none = by (int_lt (pos 0) t) refl
  where
    font : RuleLengths
    font = rule_lengths_of m size display

    by : (ruled : Bool) → int_lt (pos 0) t ≡ ruled → (stack_lengths_of m size display).gap ≤ℤ ink_gap top bottom
        (cond ruled (with_rule_of (placed_of top bottom (rule_shifts_of font top bottom t)) font.axis t)
        (placed_of top bottom (stack_shifts_of (stack_lengths_of m size display) top bottom)))
    by true e = absurd (omega (arith, signed, lt-true (pos 0) t e))
    by false e = stacked_keeps_gap (stack_lengths_of m size display) top bottom

placed_without_rule : (top bottom : MathBox) (shifts : Shifts) → (placed_of top bottom shifts).rule ≡ None
unfolding placed_of
placed_without_rule top bottom shifts = refl

pub stack_without_rule : (m : MetricsValue) (top bottom : MathBox) (t : ℤ) (display : Bool) (size : ℤ) → t ≤ℤ pos 0
    → (fraction_of m top bottom t display size).rule ≡ None
stack_without_rule m top bottom t display size none = by (int_lt (pos 0) t) refl
  where
    font : RuleLengths
    font = rule_lengths_of m size display

    by : (ruled : Bool) → int_lt (pos 0) t ≡ ruled
        → (cond ruled (with_rule_of (placed_of top bottom (rule_shifts_of font top bottom t)) font.axis t)
        (placed_of top bottom (stack_shifts_of (stack_lengths_of m size display) top bottom))).rule ≡ None
    by true e = absurd (omega (arith, signed, lt-true (pos 0) t e))
    by false e = placed_without_rule top bottom (stack_shifts_of (stack_lengths_of m size display) top bottom)

-- ---- the middle
placed_in_the_middle : (top bottom : MathBox) (shifts : Shifts) → StandsInTheMiddle top bottom (placed_of top bottom shifts)
unfolding placed_of centred_of raised joined
placed_in_the_middle top bottom shifts =
    let inner = int_max top.width bottom.width in
    let h = halved-parts (inner -ℤ top.width) in
    let k = halved-parts (inner -ℤ bottom.width) in
    record {
      top = record { margin = omega (arith, signed); low = omega (arith, signed); high = omega (arith, signed) };
      bottom = record { margin = omega (arith, signed); low = omega (arith, signed); high = omega (arith, signed) };
    }

ruled_in_the_middle : (top bottom : MathBox) (shifts : Shifts) (axis t : ℤ) → StandsInTheMiddle top bottom (with_rule_of (placed_of top bottom shifts) axis t)
unfolding with_rule_of joined
ruled_in_the_middle top bottom shifts axis t =
    let parts = placed_in_the_middle top bottom shifts in
    record { top = parts.top; bottom = parts.bottom }

pub stands_in_the_middle : (m : MetricsValue) (top bottom : MathBox) (t : ℤ) (display : Bool) (size : ℤ)
    → StandsInTheMiddle top bottom (fraction_of m top bottom t display size)
stands_in_the_middle m top bottom t display size = by (int_lt (pos 0) t)
  where
    font : RuleLengths
    font = rule_lengths_of m size display

    by : (ruled : Bool) → StandsInTheMiddle top bottom
        (cond ruled (with_rule_of (placed_of top bottom (rule_shifts_of font top bottom t)) font.axis t)
        (placed_of top bottom (stack_shifts_of (stack_lengths_of m size display) top bottom)))
    by true = ruled_in_the_middle top bottom _ _ _
    by false = placed_in_the_middle top bottom _
