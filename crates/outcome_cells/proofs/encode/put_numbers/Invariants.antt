use Rattle.std.proofs.Common.{◌≡◌, ◌≤◌, ◌+◌, ◌++◌, length, take}
use Rattle.std.specs.List.{flat_map}
use Rattle.std.specs.Vec.{vec_len, vec_capacity}
use Rattle.outcome_cells.specs.Cells.{in_cells, own_number}
use Rattle.outcome_cells.proofs.encode.put_numbers.Given as goal

-- those so far are put, and there is room for the others
abbrev pub invariant-loop-number : goal.invariant-loop-number
invariant-loop-number l = record {
  put : l.cells.items ≡ l.initial.cells.items ++ in_cells (flat_map own_number (take l.number-index l.numbers));
  room : vec_len l.cells + length l.numbers ≤ vec_capacity l.cells + l.number-index;
}
