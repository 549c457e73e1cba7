use Rattle.std.proofs.Common.{◌≡◌, ◌≤◌, ◌+◌, ◌*◌, ◌++◌, length, take}
use Rattle.std.specs.List.{All, flat_map}
use Rattle.std.specs.Vec.{vec_len, vec_capacity}
use Rattle.outcome_cells.specs.Cells.{IsMarkHeld, in_cells, mark_numbers}
use Rattle.outcome_cells.proofs.encode.put_marks.Given as goal

-- those so far are put, their counts are held, and there is room for the others
abbrev pub invariant-loop-mark : goal.invariant-loop-mark
invariant-loop-mark l = record {
  put : l.cells.items ≡ l.initial.cells.items ++ in_cells (flat_map mark_numbers (take l.mark-index l.marks));
  held : All IsMarkHeld (take l.mark-index l.marks);
  room : vec_len l.cells + length l.marks * 8 ≤ vec_capacity l.cells + l.mark-index * 8;
}
