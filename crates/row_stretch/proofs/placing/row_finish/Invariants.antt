use Rattle.std.proofs.Common.{◌≡◌, map, take}
use Rattle.std.specs.Vec.{vec_len, vec_capacity}
use Rattle.fixed_units.specs.Boxes.{all_joined}
use Rattle.fixed_units.specs.Sums.{list_to}
use Rattle.row_stretch.specs.Equation.{frame_of_kid, italic_before, room_of, offset_of}
use Rattle.row_stretch.proofs.placing.row_finish.Given as goal

-- what the children so far take, and their box; there is room for the others
abbrev pub invariant-loop-place : goal.invariant-loop-place
invariant-loop-place g l = record {
  offsets : l.offsets.items ≡ list_to l.place (offset_of l.spaces (g.K.RowKids.kids l.kids));
  len : vec_len l.offsets ≡ l.place;
  room : vec_capacity l.offsets ≡ l.count;
  at : l.at ≡ room_of l.spaces (g.K.RowKids.kids l.kids) l.place;
  italic : l.italic ≡ italic_before (g.K.RowKids.kids l.kids) l.place;
  all : l.all ≡ all_joined (map frame_of_kid (take l.place (g.K.RowKids.kids l.kids)));
}
