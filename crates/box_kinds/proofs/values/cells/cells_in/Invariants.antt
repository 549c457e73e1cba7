use Rattle.std.specs.List.{All}
use Rattle.span_tables.specs.Bounds.{HasSpan, IsStored}
use Rattle.box_kinds.proofs.values.cells.cells_in.Given as goal

-- the cells so far
abbrev pub invariant-loop-item : goal.invariant-loop-item
invariant-loop-item l = record {
  spans : All HasSpan l.cells;
  stored : All IsStored l.cells;
}
