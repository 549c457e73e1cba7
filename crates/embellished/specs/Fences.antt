-- Where the children in flow that aren't space-like begin and end.
use Rattle.std.specs.Prelude.{ℕ, suc, ◌+◌, Bool, ◌&&◌, nat_eq, if◌then◌else◌, List, [], ◌∷◌}
use Rattle.embellished.specs.Seen.{Kid}
use Rattle.embellished.specs.declared.fences.Fences.{Fences}

-- how many children stand before the first that isn't space-like
abbrev pub leading : List Kid → ℕ
leading [] = 0
leading (kid ∷ kids) = if kid.facts.space_like then suc (leading kids) else 0

-- how many children there are up to the last that isn't space-like, that one included
abbrev pub inked_end : List Kid → ℕ
inked_end [] = 0
inked_end (kid ∷ kids) =
    if kid.facts.space_like && nat_eq (inked_end kids) 0 then 0 else suc (inked_end kids)

abbrev pub fences_in : List Kid → Fences
fences_in kids = record { first = leading kids; end = inked_end kids }

-- the same with one more child, behind as many as were looked at
abbrev pub with_one : Fences → ℕ → Bool → Fences
with_one fences index blank = record {
  first = if blank && nat_eq fences.first index then index + 1 else fences.first;
  end = if blank then fences.end else index + 1;
}
