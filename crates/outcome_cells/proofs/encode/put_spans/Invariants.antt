use Rattle.std.proofs.Common.{◌≡◌, ◌≤◌, ◌+◌, ◌*◌, ◌++◌, length, take}
use Rattle.std.specs.List.{All, flat_map}
use Rattle.std.specs.Vec.{vec_len, vec_capacity}
use Rattle.outcome_cells.specs.Cells.{IsSpanHeld, in_cells, span_numbers}
use Rattle.outcome_cells.proofs.encode.put_spans.Given as goal

-- those so far are put, their counts are held, and there is room for the others
abbrev pub invariant-loop-span : goal.invariant-loop-span
invariant-loop-span l = record {
  put : l.cells.items ≡ l.initial.cells.items ++ in_cells (flat_map span_numbers (take l.span-index l.spans));
  held : All IsSpanHeld (take l.span-index l.spans);
  room : vec_len l.cells + length l.spans * 4 ≤ vec_capacity l.cells + l.span-index * 4;
}
