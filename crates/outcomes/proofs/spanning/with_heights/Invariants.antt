use Rattle.std.proofs.Common.{◌≡◌}
use Rattle.fixed_units.specs.Sums.{list_to}
use Rattle.span_tables.specs.Heights.{height_at}
use Rattle.layout_model.specs.Elements.{frame_at}
use Rattle.layout_model.specs.Tables.{with_height}
use Rattle.outcomes.proofs.spanning.with_heights.Given as goal

-- the rows so far
abbrev pub invariant-loop-index : goal.invariant-loop-index
invariant-loop-index g l = l.rows ≡ list_to l.index (λ index. with_height (frame_at l.e index) (height_at l.heights index))
