use Rattle.std.proofs.Common.{◌≡◌}
use Rattle.fixed_units.specs.Sums.{list_to}
use Rattle.layout_model.specs.Tables.{cell_span}
use Rattle.outcomes.proofs.spanning.cell_spans.Given as goal

-- the cells so far
abbrev pub invariant-loop-index : goal.invariant-loop-index
invariant-loop-index g l = l.spans ≡ list_to l.index (cell_span l.e)
