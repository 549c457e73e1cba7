use Rattle.std.proofs.Common.{◌≡◌, pos}
use Rattle.fixed_units.specs.Sums.{list_to}
use Rattle.layout_model.specs.Elements.{offset}
use Rattle.layout_model.specs.Equations.{row_at}
use Rattle.outcomes.proofs.table.lines.Given as goal

-- the rows so far
abbrev pub invariant-loop-index : goal.invariant-loop-index
invariant-loop-index l = l.places ≡ list_to l.index (λ index. offset index (pos 0) (row_at l.below index))
