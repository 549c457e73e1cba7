-- Where the middle of ink lies that was moved down.
use Rattle.std.proofs.Common.{ℕ, ℤ, pos, ◌-ℤ◌, ◌*ℤ◌, true, arith}
use Rattle.fixed_units.proofs.Rounding.{halved-parts}
use Rattle.fixed_units.proofs.Signed.{signed}
use Rattle.fixed_units.specs.declared.boxes.MathBox.{MathBox}
use Rattle.font_metrics.specs.Metrics.{MetricsValue, constant_of}
use Rattle.font_metrics.specs.declared.constants.ConstName.TheVariants.{AxisHeight}
use Rattle.glyph_assembly.specs.Targets.{Span}
use Rattle.token_boxes.specs.Laws.{RisesBy}
use Rattle.token_boxes.specs.Operator.{lowered, lowered_glyph, drop_of, upward, large_drop, large}

middle : (frame : MathBox) (rise : ℤ) → RisesBy rise (lowered frame (drop_of frame rise))
unfolding lowered drop_of
middle frame rise = (omega (arith, signed, halved-parts), omega (arith, signed, halved-parts))

pub upward_in_the_middle : (m : MetricsValue) (size : ℤ) (letter : ℕ) (span : Span)
    → RisesBy (span.0 -ℤ span.1) (upward m size letter span).frame
unfolding upward lowered_glyph
upward_in_the_middle m size letter span = middle _ (span.0 -ℤ span.1)

pub large_on_the_axis : (m : MetricsValue) (size : ℤ) (letter : ℕ)
    → RisesBy (pos 2 *ℤ constant_of m AxisHeight size) (large m size true letter).frame
unfolding large large_drop lowered_glyph
large_on_the_axis m size letter = middle _ (pos 2 *ℤ constant_of m AxisHeight size)
