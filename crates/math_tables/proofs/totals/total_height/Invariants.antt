use Rattle.std.proofs.Common.{◌≡◌}
use Rattle.math_tables.specs.Placing.{top_of}
use Rattle.math_tables.proofs.totals.total_height.Given as goal

-- what the rows so far take
abbrev pub invariant-loop-row : goal.invariant-loop-row
invariant-loop-row l = l.total ≡ top_of l.rows l.row-index
