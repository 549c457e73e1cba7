-- The box of a fraction, the places of its parts, and its rule. Places and marks count x from the
-- box's start, and y downward from its baseline.
use Rattle.std.specs.Prelude.{ℤ, pos, ◌+ℤ◌, ◌-ℤ◌, ◌*ℤ◌, int_lt, Bool, if◌then◌else◌, Some, None}
use Rattle.std.specs.Int.{int_max}
use Rattle.fixed_units.specs.Boxes.{joined, raised}
use Rattle.fixed_units.specs.Numbers.{halved}
use Rattle.fixed_units.specs.declared.boxes.MathBox.{MathBox}
use Rattle.font_metrics.specs.Metrics.{MetricsValue}
use Rattle.font_metrics.specs.declared.mark.Mark.TheVariants.{Rule}
use Rattle.fractions.specs.declared.parts.Fraction.{Fraction}
use Rattle.fractions.specs.declared.parts.Shifts.{Shifts}
use Rattle.fractions.specs.declared.parts.Spot.{Spot}
use Rattle.fractions.specs.Equation.{rule_shifts_of, stack_shifts_of}
use Rattle.fractions.specs.Lengths.{rule_lengths_of, stack_lengths_of}

-- what stays free at both ends: 1 px
abbrev pub bearing : ℤ
bearing = pos 1024

-- the wider part's width
abbrev pub inner_width : MathBox → MathBox → ℤ
inner_width top bottom = int_max top.width bottom.width

-- where a part of a width begins, in the middle of the inner width
unfoldable pub centred_of : ℤ → ℤ → ℤ
centred_of inner width = bearing +ℤ halved (inner -ℤ width)

abbrev pub spot : ℤ → ℤ → Spot
spot x y = record { x = x; y = y }

-- a box of that width, as high and as deep as another
abbrev pub of_width : ℤ → MathBox → MathBox
of_width width frame = record frame { width = width; italic = pos 0; accent = halved width }

-- the parts without a rule
unfoldable pub placed_of : MathBox → MathBox → Shifts → Fraction
placed_of top bottom shifts =
    let inner = inner_width top bottom in
    record {
      frame = of_width (inner +ℤ pos 2 *ℤ bearing)
          (joined (raised top shifts.up) (raised bottom (pos 0 -ℤ shifts.down)));
      top = spot (centred_of inner top.width) (pos 0 -ℤ shifts.up);
      bottom = spot (centred_of inner bottom.width) shifts.down;
      rule = None;
    }

-- the height of a rule's lower edge, whose middle lies on the axis
unfoldable pub lower_of : ℤ → ℤ → ℤ
lower_of axis thickness = axis -ℤ halved thickness

-- what a rule between two heights takes
abbrev pub between : ℤ → ℤ → MathBox
between lower upper = record {
  width = pos 0;
  ascent = upper;
  descent = pos 0 -ℤ lower;
  ink_ascent = upper;
  ink_descent = pos 0 -ℤ lower;
  italic = pos 0;
  accent = pos 0;
}

-- the parts with a rule between them
unfoldable pub with_rule_of : Fraction → ℤ → ℤ → Fraction
with_rule_of parts axis thickness =
    let lower = lower_of axis thickness in
    let upper = lower +ℤ thickness in
    record parts {
      frame = joined parts.frame (between lower upper);
      rule = Some (Rule bearing (pos 0 -ℤ upper) (parts.frame.width -ℤ pos 2 *ℤ bearing) thickness);
    }

-- with a rule where the thickness is above 0, and else a stack
abbrev pub fraction_of : MetricsValue → MathBox → MathBox → ℤ → Bool → ℤ → Fraction
fraction_of m top bottom thickness display size =
    let font = rule_lengths_of m size display in
    if int_lt (pos 0) thickness
    then with_rule_of (placed_of top bottom (rule_shifts_of font top bottom thickness)) font.axis
    thickness
    else placed_of top bottom (stack_shifts_of (stack_lengths_of m size display) top bottom)
