-- The parts of the answer in one.
use Rattle.std.proofs.Common.{◌≡◌, refl, Bool, List, length, ℤ, pos, ◌+ℤ◌}
use Rattle.fixed_units.specs.Numbers.{halved}
use Rattle.fixed_units.specs.declared.boxes.MathBox.{MathBox}
use Rattle.font_metrics.specs.Metrics.{MetricsValue, constant_of}
use Rattle.font_metrics.specs.declared.constants.ConstName.TheVariants.{SpaceAfterScript}
use Rattle.multiscripts.specs.Along.{line_at, sub_spots_of, sup_spots_of}
use Rattle.multiscripts.specs.Heights.{all_shifts_of, union_of}
use Rattle.multiscripts.specs.Placing.{multi_of}
use Rattle.multiscripts.specs.declared.along.Line.{Line}
use Rattle.multiscripts.specs.declared.parts.Multi.{Multi}
use Rattle.multiscripts.specs.declared.parts.Pair.{Pair}
use Rattle.scripts.specs.Beside.{spot}
use Rattle.scripts.specs.declared.parts.Shifts.{Shifts}
use Rattle.scripts.specs.declared.parts.Spot.{Spot}

abbrev pub placed_parts : MathBox → ℤ → ℤ → ℤ → List Spot → List Spot → Multi
placed_parts union start width accent subs sups = record {
  frame = record union { width = width; italic = pos 0; accent = accent };
  base = spot start (pos 0);
  subs = subs;
  sups = sups;
}

pub all_placed : (m : MetricsValue) (base : MathBox) (large cramped : Bool) (pairs items : List Pair) (size space : ℤ) (shifts : Shifts) (line : Line)
    (union : MathBox) (end width accent : ℤ) (subs sups : List Spot)
    → items ≡ pairs → space ≡ constant_of m SpaceAfterScript size → shifts ≡ all_shifts_of m size cramped base items
    → line ≡ line_at space base large items (length items) → end ≡ line.ahead +ℤ base.width → width ≡ end +ℤ line.behind → accent ≡ halved width
    → union ≡ union_of base shifts items → subs ≡ sub_spots_of space end base large items shifts.down (length items)
    → sups ≡ sup_spots_of space end base large items shifts.up (length items)
    → placed_parts union line.ahead width accent subs sups ≡ multi_of m base large cramped pairs size
all_placed m base large cramped pairs items size space shifts line union end width accent subs sups i s h l e w a u b p =
    rw p (rw b (rw u (rw a (rw w (rw e (rw l (rw h (rw s (rw i refl)))))))))
