-- The constants of fractions at a font size: some are one in display style and another in text
-- style.
use Rattle.std.specs.Prelude.{ℕ, ℤ, Bool, if◌then◌else◌}
use Rattle.fixed_units.specs.Numbers.{IsWithin}
use Rattle.font_metrics.specs.Metrics.{MetricsValue, constant_of}
use Rattle.font_metrics.specs.declared.constants.ConstName.{ConstName}
use Rattle.font_metrics.specs.declared.constants.ConstName.TheVariants.{AxisHeight, FractionNumeratorShiftUp, FractionNumeratorDisplayStyleShiftUp, FractionNumeratorGapMin, FractionNumDisplayStyleGapMin, FractionDenominatorShiftDown, FractionDenominatorDisplayStyleShiftDown, FractionDenominatorGapMin, FractionDenomDisplayStyleGapMin, StackTopShiftUp, StackTopDisplayStyleShiftUp, StackBottomShiftDown, StackBottomDisplayStyleShiftDown, StackGapMin, StackDisplayStyleGapMin}
use Rattle.fractions.specs.declared.lengths.RuleLengths.{RuleLengths}
use Rattle.fractions.specs.declared.lengths.StackLengths.{StackLengths}

abbrev pub in_style : Bool → ConstName → ConstName → ConstName
in_style display in_display in_text = if display then in_display else in_text

-- a fraction with a rule
unfoldable pub rule_lengths_of : MetricsValue → ℤ → Bool → RuleLengths
rule_lengths_of m size display = record {
  axis = constant_of m AxisHeight size;
  shift_up = constant_of m (in_style display FractionNumeratorDisplayStyleShiftUp
      FractionNumeratorShiftUp) size;
  gap_above = constant_of m (in_style display FractionNumDisplayStyleGapMin FractionNumeratorGapMin)
      size;
  shift_down = constant_of m
      (in_style display FractionDenominatorDisplayStyleShiftDown FractionDenominatorShiftDown) size;
  gap_below = constant_of m
      (in_style display FractionDenomDisplayStyleGapMin FractionDenominatorGapMin) size;
}

-- a stack
unfoldable pub stack_lengths_of : MetricsValue → ℤ → Bool → StackLengths
stack_lengths_of m size display = record {
  shift_up = constant_of m (in_style display StackTopDisplayStyleShiftUp StackTopShiftUp) size;
  shift_down = constant_of m
      (in_style display StackBottomDisplayStyleShiftDown StackBottomShiftDown) size;
  gap = constant_of m (in_style display StackDisplayStyleGapMin StackGapMin) size;
}

pub record AreRuleLengthsWithin (m : ℕ) (font : RuleLengths) : Type 0 where
  pub axis : IsWithin m font.axis
  pub shift_up : IsWithin m font.shift_up
  pub gap_above : IsWithin m font.gap_above
  pub shift_down : IsWithin m font.shift_down
  pub gap_below : IsWithin m font.gap_below

pub record AreStackLengthsWithin (m : ℕ) (font : StackLengths) : Type 0 where
  pub shift_up : IsWithin m font.shift_up
  pub shift_down : IsWithin m font.shift_down
  pub gap : IsWithin m font.gap
