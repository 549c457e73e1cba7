use Rattle.std.specs.List.{All}
use Rattle.span_tables.specs.Bounds.{IsSpanStored}
use Rattle.box_kinds.proofs.kinds.spans.spans_of.Given as goal

-- the cells so far
abbrev pub invariant-loop-cell : goal.invariant-loop-cell
invariant-loop-cell l = All IsSpanStored l.spans
