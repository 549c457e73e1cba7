-- The ids that an element keeps, as a set.
use Rattle.std.specs.Prelude.{◌≡◌, ℕ, List, Bool, true, false, ◌||◌, nat_eq, nat_le, Option, Some, None}
use Rattle.std.specs.HashSet.{HashSet}
use Rattle.std.specs.List.{list_any}
use Rattle.tree_edits.specs.Edits.{stands_twice}

-- an id is one of these
abbrev pub is_among : List ℕ → ℕ → Bool
is_among ids id = list_any (nat_eq id) ids

-- they differ and lie below the next id, and the set has them and no other; or they don't, and
-- there is no set
abbrev pub AreFree : {S : Type 0} → List ℕ → ℕ → Option (HashSet ℕ S) → Type 0
AreFree ids next None = (stands_twice ids || list_any (nat_le next) ids) ≡ true
AreFree ids next (Some own) =
    ((stands_twice ids || list_any (nat_le next) ids) ≡ false)
    × ((id : ℕ) → is_among own.keys id ≡ is_among ids id)
