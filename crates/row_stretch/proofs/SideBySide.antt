-- Children stand side by side: each behind the one before, and the row as wide as all together.
use Rattle.std.proofs.Common.{◌≡◌, ◌∙◌, sym, ap, ℕ, ◌+◌, ◌<◌, arith, Bool, List, length, Some, ℤ, ◌+ℤ◌}
use Rattle.std.specs.Prelude.{slice_get}
use Rattle.fixed_units.specs.Sums.{sum_to, list_to}
use Rattle.fixed_units.proofs.Signed.{signed}
use Rattle.fixed_units.proofs.Sums.{length-list_to, slice_get-list_to, sum_to-+ℤ}
use Rattle.row_stretch.specs.declared.parts.RowKid.{RowKid}
use Rattle.row_stretch.specs.Equation.{ahead_at, advance_at, room_of, offset_of, row_of}
use Rattle.row_stretch.specs.Laws.{StandSideBySide}
use Rattle.row_stretch.proofs.Rows.{room_of-zero, room_of-add_one, offset_of-is}

-- what is found at a place is the offset there
found : (s : Bool) (kids : List RowKid) (i : ℕ) (x : ℤ) → i < length kids
    → slice_get (list_to (length kids) (offset_of s kids)) i ≡ Some x → offset_of s kids i ≡ x
found s kids i x l is = let e = slice_get-list_to (length kids) i (offset_of s kids) l in cc

first_offset : (s : Bool) (kids : List RowKid) → offset_of s kids 0 ≡ ahead_at s kids 0
first_offset s kids = omega (arith, signed, offset_of-is s kids 0, room_of-zero s kids)

next_offset : (s : Bool) (kids : List RowKid) (i : ℕ) (x : ℤ) → offset_of s kids i ≡ x
    → offset_of s kids (i + 1) ≡ x +ℤ advance_at s kids i +ℤ ahead_at s kids (i + 1)
next_offset s kids i x e = omega (arith, signed, offset_of-is s kids i, offset_of-is s kids (i + 1), room_of-add_one s kids i)

last_end : (s : Bool) (kids : List RowKid) (i : ℕ) (x : ℤ) → offset_of s kids i ≡ x
    → room_of s kids (i + 1) ≡ x +ℤ advance_at s kids i
last_end s kids i x e = omega (arith, signed, offset_of-is s kids i, room_of-add_one s kids i)

parts : (s : Bool) (kids : List RowKid) → room_of s kids (length kids)
    ≡ sum_to (length kids) (λ place. ahead_at s kids place) +ℤ sum_to (length kids) (λ place. advance_at s kids place)
unfolding room_of
parts s kids = sum_to-+ℤ (length kids) (λ place. ahead_at s kids place) (λ place. advance_at s kids place)

pub stand_side_by_side : (s : Bool) (kids : List RowKid) → StandSideBySide s kids (row_of s kids)
stand_side_by_side s kids =
    let n = length kids in
    record {
      count = length-list_to n (offset_of s kids);
      first = λ l. slice_get-list_to n 0 (offset_of s kids) l ∙ ap Some (first_offset s kids);
      next = λ i x l is. slice_get-list_to n (i + 1) (offset_of s kids) l
          ∙ ap Some (next_offset s kids i x (found s kids i x (omega arith) is));
      last = λ i x l is. ap (room_of s kids) (sym l) ∙ last_end s kids i x (found s kids i x (omega arith) is);
      width = parts s kids;
    }
