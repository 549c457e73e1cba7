-- How far the scripts of all pairs are moved down and up, and what they reach there.
use Rattle.std.specs.Prelude.{ℤ, pos, Bool, List, [], ◌∷◌, map, fold}
use Rattle.std.specs.Int.{int_max}
use Rattle.fixed_units.specs.Boxes.{raised, all_joined}
use Rattle.fixed_units.specs.declared.boxes.MathBox.{MathBox}
use Rattle.font_metrics.specs.Metrics.{MetricsValue}
use Rattle.multiscripts.specs.declared.parts.Pair.{Pair}
use Rattle.scripts.specs.Beside.{below}
use Rattle.scripts.specs.Shifts.{pair_shifts_of}
use Rattle.scripts.specs.declared.parts.Shifts.{Shifts}

-- the scripts of a pair alone
abbrev pub alone_of : MetricsValue → ℤ → Bool → MathBox → Pair → Shifts
alone_of m size cramped base pair = pair_shifts_of m size cramped base pair.sub pair.sup

unfoldable pub larger_of : Shifts → Shifts → Shifts
larger_of a b = record { up = int_max a.up b.up; down = int_max a.down b.down }

-- the largest of each; without any, 0
abbrev pub largest_of : List Shifts → Shifts
largest_of [] = record { up = pos 0; down = pos 0 }
largest_of (first ∷ others) = fold larger_of first others

-- all scripts are moved as far as those that are moved farthest
abbrev pub all_shifts_of : MetricsValue → ℤ → Bool → MathBox → List Pair → Shifts
all_shifts_of m size cramped base pairs = largest_of (map (alone_of m size cramped base) pairs)

-- the boxes of all scripts there
abbrev pub moved : Shifts → List Pair → List MathBox
moved shifts [] = []
moved shifts (pair ∷ pairs) = below pair.sub shifts.down ∷ raised pair.sup shifts.up
    ∷ moved shifts pairs

abbrev pub union_of : MathBox → Shifts → List Pair → MathBox
union_of base shifts pairs = all_joined (base ∷ moved shifts pairs)
