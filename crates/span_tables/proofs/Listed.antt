-- Lists over places, read at a place.
use Rattle.std.proofs.Common.{◌≡◌, ℕ, ◌<◌, get_or}
use Rattle.std.proofs.lemmas.Option.{get_or_from_slice_get}
use Rattle.fixed_units.specs.Sums.{list_to}
use Rattle.fixed_units.proofs.Sums.{slice_get-list_to}

pub get_or-list_to : {A : Type 0} (n i : ℕ) (f : ℕ → A) (d : A) → i < n → get_or (list_to n f) i d ≡ f i
get_or-list_to n i f d h = get_or_from_slice_get (list_to n f) i (f i) d (slice_get-list_to n i f h)
