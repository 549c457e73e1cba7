use Rattle.std.proofs.Common.{◌≡◌, take}
use Rattle.math_tables.specs.Columns.{widened}
use Rattle.math_tables.proofs.widths.widen.Given as goal

-- the columns have room for the cells so far
abbrev pub invariant-loop-place : goal.invariant-loop-place
invariant-loop-place l = l.widths.items ≡ widened l.initial.widths.items (take l.place l.row)
