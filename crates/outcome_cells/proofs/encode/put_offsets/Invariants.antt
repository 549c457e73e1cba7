use Rattle.std.proofs.Common.{◌≡◌, ◌≤◌, ◌+◌, ◌*◌, ◌++◌, length, take}
use Rattle.std.specs.List.{All, flat_map}
use Rattle.std.specs.Vec.{vec_len, vec_capacity}
use Rattle.outcome_cells.specs.Cells.{IsOffsetHeld, in_cells, offset_numbers}
use Rattle.outcome_cells.proofs.encode.put_offsets.Given as goal

-- those so far are put, their counts are held, and there is room for the others
abbrev pub invariant-loop-offset : goal.invariant-loop-offset
invariant-loop-offset l = record {
  put : l.cells.items ≡ l.initial.cells.items ++ in_cells (flat_map offset_numbers (take l.offset-index l.offsets));
  held : All IsOffsetHeld (take l.offset-index l.offsets);
  room : vec_len l.cells + length l.offsets * 3 ≤ vec_capacity l.cells + l.offset-index * 3;
}
