-- One pair behind its base is laid out as a subscript and a superscript are.
use Rattle.std.proofs.Common.{◌≡◌, refl, arith, Bool, true, false, [], ◌∷◌, ℤ, pos, ◌+ℤ◌, ◌-ℤ◌}
use Rattle.std.specs.Int.{int_max}
use Rattle.fixed_units.specs.Boxes.{joined, raised}
use Rattle.fixed_units.specs.Numbers.{halved}
use Rattle.fixed_units.specs.Sums.{sum_to, list_to}
use Rattle.fixed_units.specs.declared.boxes.MathBox.{MathBox}
use Rattle.fixed_units.proofs.Signed.{signed}
use Rattle.font_metrics.specs.Metrics.{MetricsValue, constant_of}
use Rattle.font_metrics.specs.declared.constants.ConstName.TheVariants.{SpaceAfterScript}
use Rattle.multiscripts.specs.Along.{base_lean_of, lean_at, sub_start_of, sup_start_of, room_of, ahead_of, behind_of, room_x_of, sub_x_at, sup_x_at}
use Rattle.multiscripts.specs.Laws.{behind, IsLaidOutAs}
use Rattle.multiscripts.specs.Placing.{multi_of}
use Rattle.scripts.specs.Beside.{spot, below, sub_x_of, sup_x_of, ending_at_of, sub_sup_of}
use Rattle.scripts.specs.Kerns.{no_corners, sub_kern_of, sup_kern_of}
use Rattle.scripts.specs.Shifts.{pair_shifts_of}

module _ (space : ℤ) (base sub sup : MathBox) where
  sub_begins : (large : Bool) → sub_x_at space (pos 0 +ℤ base.width) base large (behind sub sup ∷ []) 0 ≡ sub_x_of base large +ℤ pos 0
  unfolding ahead_of behind_of lean_at base_lean_of sub_start_of room_x_of sub_x_of sum_to
  sub_begins true = omega (arith, signed)
  sub_begins false = omega (arith, signed)

  sup_begins : (large : Bool) → sup_x_at space (pos 0 +ℤ base.width) base large (behind sub sup ∷ []) 0 ≡ sup_x_of base large +ℤ pos 0
  unfolding ahead_of behind_of lean_at base_lean_of sup_start_of room_x_of sup_x_of sum_to
  sup_begins true = omega (arith, signed)
  sup_begins false = omega (arith, signed)

  ends : (large : Bool) → pos 0 +ℤ base.width +ℤ behind_of space base large (behind sub sup ∷ []) 1
      ≡ int_max (sub_x_of base large +ℤ pos 0 +ℤ sub.width) (sup_x_of base large +ℤ pos 0 +ℤ sup.width) +ℤ space
  unfolding behind_of lean_at base_lean_of room_of sub_start_of sup_start_of sub_x_of sup_x_of sum_to
  ends true = omega (arith, signed)
  ends false = omega (arith, signed)

pub one_pair : (m : MetricsValue) (base : MathBox) (large cramped : Bool) (sub sup : MathBox) (size : ℤ)
    → IsLaidOutAs (sub_sup_of m base large cramped sub sup no_corners size) (multi_of m base large cramped (behind sub sup ∷ []) size)
unfolding sub_sup_of sub_kern_of sup_kern_of ending_at_of ahead_of sum_to list_to
one_pair m base large cramped sub sup size =
    let space = constant_of m SpaceAfterScript size in
    let shifts = pair_shifts_of m size cramped base sub sup in
    let width = ends space base sub sup large in
    record {
      frame = λ k. record (joined (joined base (below sub shifts.down)) (raised sup shifts.up)) { width = width k; italic = pos 0; accent = halved (width k) };
      base = refl;
      subs = λ k. spot (sub_begins space base sub sup large k) shifts.down ∷ [];
      sups = λ k. spot (sup_begins space base sub sup large k) (pos 0 -ℤ shifts.up) ∷ [];
    }
