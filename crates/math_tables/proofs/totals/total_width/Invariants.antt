use Rattle.std.proofs.Common.{◌≡◌}
use Rattle.math_tables.specs.Placing.{start_of}
use Rattle.math_tables.proofs.totals.total_width.Given as goal

-- what the columns so far take
abbrev pub invariant-loop-width : goal.invariant-loop-width
invariant-loop-width l = l.total ≡ start_of l.widths l.width-index
