-- What holds of every splice that fits a list.
use Rattle.std.specs.Prelude.{◌≡◌, ◌⊎◌, ℕ, ◌+◌, ◌≤◌, List, length, Some, slice_get}
use Rattle.splices.specs.Splicing.{Brings, FitsIn, Moves, inverse, room_back, site_of, spliced, taken}
use Rattle.splices.specs.declared.splice.Splice.{Splice}

-- the inverse of a splice leads back to the list before, and fits where it has the room that it
-- takes
pub record LeadsBack {A : Type 0} (splice : Splice A) (list : List A) (room : ℕ) : Type 0 where
  pub back : spliced (inverse (site_of splice) (taken splice list) room) (spliced splice list)
      ≡ list
  pub fits : room_back splice list ≤ room →
      FitsIn (inverse (site_of splice) (taken splice list) room) (spliced splice list)

abbrev pub InverseLaw : Type 0 → Type 0
InverseLaw A =
    (splice : Splice A) (list : List A) (room : ℕ) → FitsIn splice list → LeadsBack splice list room

-- what stays is the same item at its place after the splice
abbrev pub MovesLaw : Type 0 → Type 0
MovesLaw A =
    (splice : Splice A) (list : List A) (before after : ℕ) → FitsIn splice list →
    Moves (site_of splice) before after →
    slice_get (spliced splice list) after ≡ slice_get list before

-- what stands at a place after it is what the splice brings, or an item that stays
abbrev pub OriginLaw : Type 0 → Type 0
OriginLaw A =
    (splice : Splice A) (list : List A) (place : ℕ) (item : A) → FitsIn splice list →
    slice_get (spliced splice list) place ≡ Some item →
    Brings splice place item
    ⊎ ((before : ℕ) × Moves (site_of splice) before place × (slice_get list before ≡ Some item))

-- there is one item more at most, and one less at most
abbrev pub LengthLaw : Type 0 → Type 0
LengthLaw A = (splice : Splice A) (list : List A) → FitsIn splice list →
    (length (spliced splice list) ≤ length list + 1)
    × (length list ≤ length (spliced splice list) + 1)
