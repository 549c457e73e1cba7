-- The box of a base with scripts behind it, and the places of the scripts. Places count x from the
-- box's start, where the base stands, and y downward from its baseline.
use Rattle.std.specs.Prelude.{ℤ, pos, ◌+ℤ◌, ◌-ℤ◌, Bool, if◌then◌else◌}
use Rattle.std.specs.Int.{int_max}
use Rattle.fixed_units.specs.Boxes.{joined, raised}
use Rattle.fixed_units.specs.Numbers.{halved}
use Rattle.fixed_units.specs.declared.boxes.MathBox.{MathBox}
use Rattle.font_metrics.specs.Metrics.{MetricsValue, constant_of}
use Rattle.font_metrics.specs.declared.constants.ConstName.TheVariants.{SpaceAfterScript}
use Rattle.scripts.specs.declared.parts.KernFrom.{KernFrom}
use Rattle.scripts.specs.declared.parts.Scripted.{Scripted}
use Rattle.scripts.specs.declared.parts.Spot.{Spot}
use Rattle.scripts.specs.Kerns.{sub_kern_of, sup_kern_of}
use Rattle.scripts.specs.Lengths.{sub_lengths_of, sup_lengths_of}
use Rattle.scripts.specs.Shifts.{sub_shift_of, sup_shift_of, pair_shifts_of}

-- ---- along the line

-- a subscript begins behind the base, or under the lean of a large operator
unfoldable pub sub_x_of : MathBox → Bool → ℤ
sub_x_of base large = if large then base.width -ℤ base.italic else base.width

-- a superscript begins behind the base and its lean, which a large operator's width holds already
unfoldable pub sup_x_of : MathBox → Bool → ℤ
sup_x_of base large = if large then base.width else base.width +ℤ base.italic

-- parts of which the last ends there, and the space after scripts
unfoldable pub ending_at_of : MetricsValue → MathBox → ℤ → ℤ → MathBox
ending_at_of m parts end size =
    let width = end +ℤ constant_of m SpaceAfterScript size in
    record parts { width = width; italic = pos 0; accent = halved width }

-- ---- one script and two

abbrev pub spot : ℤ → ℤ → Spot
spot x y = record { x = x; y = y }

abbrev pub below : MathBox → ℤ → MathBox
below part depth = raised part (pos 0 -ℤ depth)

unfoldable pub sub_of : MetricsValue → MathBox → Bool → MathBox → KernFrom → ℤ → Scripted
sub_of m base large script from size =
    let down = sub_shift_of (sub_lengths_of m size) base script in
    let x = sub_x_of base large +ℤ sub_kern_of m from base script down in
    record {
      frame = ending_at_of m (joined base (below script down)) (x +ℤ script.width) size;
      sub = spot x down;
      sup = spot (pos 0) (pos 0);
    }

unfoldable pub sup_of : MetricsValue → MathBox → Bool → Bool → MathBox → KernFrom → ℤ → Scripted
sup_of m base large cramped script from size =
    let up = sup_shift_of (sup_lengths_of m size cramped) base script in
    let x = sup_x_of base large +ℤ sup_kern_of m from base script up in
    record {
      frame = ending_at_of m (joined base (raised script up)) (x +ℤ script.width) size;
      sub = spot (pos 0) (pos 0);
      sup = spot x (pos 0 -ℤ up);
    }

unfoldable pub sub_sup_of : MetricsValue → MathBox → Bool → Bool → MathBox → MathBox → KernFrom → ℤ
    → Scripted
sub_sup_of m base large cramped sub sup from size =
    let shifts = pair_shifts_of m size cramped base sub sup in
    let sub_x = sub_x_of base large +ℤ sub_kern_of m from base sub shifts.down in
    let sup_x = sup_x_of base large +ℤ sup_kern_of m from base sup shifts.up in
    record {
      frame = ending_at_of m (joined (joined base (below sub shifts.down)) (raised sup shifts.up))
          (int_max (sub_x +ℤ sub.width) (sup_x +ℤ sup.width)) size;
      sub = spot sub_x shifts.down;
      sup = spot sup_x (pos 0 -ℤ shifts.up);
    }
