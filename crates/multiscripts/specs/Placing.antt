-- The box of a base with pairs of scripts, and the places of all. Places count x from the box's
-- start and y downward from its baseline.
use Rattle.std.specs.Prelude.{ℤ, pos, ◌+ℤ◌, Bool, List, length}
use Rattle.fixed_units.specs.Numbers.{halved}
use Rattle.fixed_units.specs.declared.boxes.MathBox.{MathBox}
use Rattle.font_metrics.specs.Metrics.{MetricsValue, constant_of}
use Rattle.font_metrics.specs.declared.constants.ConstName.TheVariants.{SpaceAfterScript}
use Rattle.multiscripts.specs.Along.{line_at, sub_spots_of, sup_spots_of}
use Rattle.multiscripts.specs.Heights.{all_shifts_of, union_of}
use Rattle.multiscripts.specs.declared.parts.Multi.{Multi}
use Rattle.multiscripts.specs.declared.parts.Pair.{Pair}
use Rattle.scripts.specs.Beside.{spot}
use Rattle.scripts.specs.declared.parts.Shifts.{Shifts}

-- prescripts, the base, and the other scripts
abbrev pub placed_of : ℤ → MathBox → Bool → List Pair → Shifts → Multi
placed_of space base large pairs shifts =
    let line = line_at space base large pairs (length pairs) in
    let end = line.ahead +ℤ base.width in
    let width = end +ℤ line.behind in
    record {
      frame = record (union_of base shifts pairs) {
        width = width;
        italic = pos 0;
        accent = halved width;
      };
      base = spot line.ahead (pos 0);
      subs = sub_spots_of space end base large pairs shifts.down (length pairs);
      sups = sup_spots_of space end base large pairs shifts.up (length pairs);
    }

abbrev pub multi_of : MetricsValue → MathBox → Bool → Bool → List Pair → ℤ → Multi
multi_of m base large cramped pairs size =
    placed_of (constant_of m SpaceAfterScript size) base large pairs
    (all_shifts_of m size cramped base pairs)
