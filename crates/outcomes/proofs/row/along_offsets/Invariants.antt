use Rattle.std.proofs.Common.{◌≡◌, ◌+ℤ◌, pos, slice_index_or}
use Rattle.std.specs.Vec.{vec_len, vec_capacity}
use Rattle.fixed_units.specs.Sums.{list_to}
use Rattle.layout_model.specs.Elements.{offset}
use Rattle.outcomes.proofs.row.along_offsets.Given as goal

-- the children so far, and there is room for the others
abbrev pub invariant-loop-index : goal.invariant-loop-index
invariant-loop-index l = record {
  places : l.places.items ≡ list_to l.index (λ kid. offset kid (l.start +ℤ slice_index_or l.offsets kid (pos 0)) l.y);
  len : vec_len l.places ≡ l.index;
  room : vec_capacity l.places ≡ l.count;
}
