-- The ink of two scripts keeps the least gap.
use Rattle.std.proofs.Common.{arith, Bool, ℤ, ◌-ℤ◌, ◌≤ℤ◌}
use Rattle.fixed_units.specs.declared.boxes.MathBox.{MathBox}
use Rattle.fixed_units.proofs.Signed.{signed}
use Rattle.font_metrics.specs.Metrics.{MetricsValue}
use Rattle.scripts.specs.declared.lengths.PairLengths.{PairLengths}
use Rattle.scripts.specs.declared.parts.Shifts.{Shifts}
use Rattle.scripts.specs.Beside.{sub_sup_of}
use Rattle.scripts.specs.declared.parts.KernFrom.{KernFrom}
use Rattle.scripts.specs.Laws.{ink_gap}
use Rattle.scripts.specs.Lengths.{pair_lengths_of}
use Rattle.scripts.specs.Shifts.{ink_bottom, ink_top, lack_of, moved_apart_of, pair_shifts_of}

lack_makes_up : (font : PairLengths) (shifts : Shifts) (sub sup : MathBox)
    → (font.gap -ℤ (ink_bottom shifts sup -ℤ ink_top shifts sub)) ≤ℤ lack_of font shifts sub sup
unfolding lack_of
lack_makes_up font shifts sub sup = omega (arith, signed)

-- whatever part of the lack the superscript makes up for
moved_apart_keeps_gap : (font : PairLengths) (shifts : Shifts) (sub sup : MathBox)
    → font.gap ≤ℤ (ink_bottom (moved_apart_of font shifts sub sup) sup -ℤ ink_top (moved_apart_of font shifts sub sup) sub)
unfolding moved_apart_of
moved_apart_keeps_gap font shifts sub sup = let made = lack_makes_up font shifts sub sup in omega (arith, signed)

pub pair_keeps_gap : (m : MetricsValue) (size : ℤ) (cramped : Bool) (base sub sup : MathBox)
    → (pair_lengths_of m size).gap ≤ℤ (ink_bottom (pair_shifts_of m size cramped base sub sup) sup -ℤ ink_top (pair_shifts_of m size cramped base sub sup) sub)
unfolding pair_shifts_of
pair_keeps_gap m size cramped base sub sup = moved_apart_keeps_gap (pair_lengths_of m size) _ sub sup

pub scripts_keep_gap : (m : MetricsValue) (base : MathBox) (large cramped : Bool) (sub sup : MathBox) (from : KernFrom) (size : ℤ)
    → (pair_lengths_of m size).gap ≤ℤ ink_gap sub sup (sub_sup_of m base large cramped sub sup from size)
unfolding sub_sup_of
scripts_keep_gap m base large cramped sub sup from size =
    let gap = pair_keeps_gap m size cramped base sub sup in
    omega (arith, signed)
