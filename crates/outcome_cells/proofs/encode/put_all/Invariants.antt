use Rattle.std.proofs.Common.{◌≡◌, ◌+◌, ◌++◌, take}
use Rattle.std.specs.Vec.{vec_len, vec_capacity}
use Rattle.outcome_cells.proofs.encode.put_all.Given as goal

-- those so far are put
abbrev pub invariant-loop-cell : goal.invariant-loop-cell
invariant-loop-cell l = record {
  put : l.cells.items ≡ l.initial.cells.items ++ take l.cell-index l.more;
  len : vec_len l.cells ≡ vec_len l.initial.cells + l.cell-index;
  room : vec_capacity l.cells ≡ vec_capacity l.initial.cells;
}
