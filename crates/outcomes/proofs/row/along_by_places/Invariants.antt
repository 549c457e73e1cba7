use Rattle.std.proofs.Common.{◌≡◌}
use Rattle.fixed_units.specs.Sums.{list_to}
use Rattle.layout_model.specs.Elements.{along_row}
use Rattle.outcomes.proofs.row.along_by_places.Given as goal

-- the children so far
abbrev pub invariant-loop-index : goal.invariant-loop-index
invariant-loop-index g l = l.offsets ≡ list_to l.index (along_row l.e l.row l.start l.y)
