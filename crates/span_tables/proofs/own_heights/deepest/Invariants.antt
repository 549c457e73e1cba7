use Rattle.std.proofs.Common.{◌≡◌, take}
use Rattle.span_tables.specs.Heights.{descents_of}
use Rattle.span_tables.specs.Widths.{largest}
use Rattle.span_tables.proofs.own_heights.deepest.Given as goal

-- that of the cells so far
abbrev pub invariant-loop-cell : goal.invariant-loop-cell
invariant-loop-cell l = l.deepest ≡ largest (descents_of (take l.cell-index l.cells))
