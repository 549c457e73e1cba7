-- A row: each child stands behind all widths, spaces and italic corrections before it.
use Rattle.std.specs.Prelude.{ℕ, zero, suc, ◌==◌, Bool, false, ◌&&◌, if◌then◌else◌, List, length, map, slice_index_or, ℤ, pos, ◌+ℤ◌}
use Rattle.fixed_units.specs.Boxes.{IsStored, farthest, empty_box, joined, all_joined}
use Rattle.fixed_units.specs.Numbers.{IsWithin, halved}
use Rattle.fixed_units.specs.Sums.{sum_to, list_to}
use Rattle.fixed_units.specs.declared.boxes.MathBox.{MathBox}
use Rattle.row_stretch.specs.declared.parts.Row.{Row}
use Rattle.row_stretch.specs.declared.parts.RowKid.{RowKid}

-- box and spaces can be stored
pub record IsKidStored (kid : RowKid) : Type 0 where
  pub frame : IsStored kid.frame
  pub before : IsWithin farthest kid.before
  pub after : IsWithin farthest kid.after

abbrev pub frame_of_kid : RowKid → MathBox
frame_of_kid kid = kid.frame

-- ---- along the row

-- what stands ahead of a child, behind one with this italic correction
unfoldable pub ahead_of : Bool → ℤ → RowKid → ℤ
ahead_of spaces italic kid =
    if kid.embellished then (if spaces then kid.before else pos 0) else italic

-- from a child's start to where it ends, with the space after it
unfoldable pub advance_of : Bool → RowKid → ℤ
advance_of spaces kid =
    if kid.embellished && spaces then kid.frame.width +ℤ kid.after else kid.frame.width

abbrev pub no_kid : RowKid
no_kid = record { frame = empty_box; before = pos 0; after = pos 0; embellished = false }

abbrev pub kid_at : List RowKid → ℕ → RowKid
kid_at kids place = slice_index_or kids place no_kid

-- the italic correction of the child before a place
abbrev pub italic_before : List RowKid → ℕ → ℤ
italic_before kids zero = pos 0
italic_before kids (suc place) = (kid_at kids place).frame.italic

abbrev pub ahead_at : Bool → List RowKid → ℕ → ℤ
ahead_at spaces kids place = ahead_of spaces (italic_before kids place) (kid_at kids place)

abbrev pub advance_at : Bool → List RowKid → ℕ → ℤ
advance_at spaces kids place = advance_of spaces (kid_at kids place)

-- what the first n children take
unfoldable pub room_of : Bool → List RowKid → ℕ → ℤ
room_of spaces kids n = sum_to n (λ place. ahead_at spaces kids place
    +ℤ advance_at spaces kids place)

-- where the child at a place begins
unfoldable pub offset_of : Bool → List RowKid → ℕ → ℤ
offset_of spaces kids place = room_of spaces kids place +ℤ ahead_at spaces kids place

-- ---- the box

-- the box of the children before a place, with the child there
abbrev pub with_kid : MathBox → ℕ → RowKid → MathBox
with_kid all zero kid = kid.frame
with_kid all (suc place) kid = joined all kid.frame

-- an accent is attached as to an only child, and else in the middle
unfoldable pub accent_of : Bool → List RowKid → ℤ
accent_of spaces kids =
    if length kids == 1 then offset_of spaces kids 0 +ℤ (kid_at kids 0).frame.accent
    else halved (room_of spaces kids (length kids))

abbrev pub row_of : Bool → List RowKid → Row
row_of spaces kids = record {
  frame = record (all_joined (map frame_of_kid kids)) {
    width = room_of spaces kids (length kids);
    italic = italic_before kids (length kids);
    accent = accent_of spaces kids;
  };
  offsets = list_to (length kids) (offset_of spaces kids);
}
