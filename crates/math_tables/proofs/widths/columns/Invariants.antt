use Rattle.std.proofs.Common.{◌≡◌, take}
use Rattle.math_tables.specs.Columns.{columns_of}
use Rattle.math_tables.proofs.widths.columns.Given as goal

-- the columns of the rows so far
abbrev pub invariant-loop-row : goal.invariant-loop-row
invariant-loop-row l = l.widths.items ≡ columns_of (take l.row-index l.row-items)
