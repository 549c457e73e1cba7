use Rattle.std.proofs.Common.{◌≡◌, length}
use Rattle.std.specs.List.{All}
use Rattle.span_tables.specs.Heights.{IsHeightStored}
use Rattle.box_kinds.proofs.kinds.spans.own_heights.Given as goal

-- the rows so far
abbrev pub invariant-loop-cells : goal.invariant-loop-cells
invariant-loop-cells l = record {
  each : length l.heights ≡ l.cells-index;
  stored : All IsHeightStored l.heights;
}
