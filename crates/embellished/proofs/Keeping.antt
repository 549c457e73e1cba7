-- Loops that keep some of the items of a list, or of what the items have.
use Rattle.std.proofs.Common.{◌≡◌, ◌∙◌, ap, sym, ℕ, ◌+◌, ◌<◌, Bool, List, [], ◌∷◌, ◌++◌, length, take, get_or, map, filter, if◌then◌else◌}
use Rattle.std.proofs.Math.ListN.{get_or-map}
use Rattle.std.proofs.lemmas.List.{length-map, take-map}
use Rattle.std.proofs.lemmas.List.Elements.{filter_more}

-- the next item is added, where it is to be kept
pub kept_more : {X : Type 0} (p : X → Bool) (xs : List X) (i : ℕ) (d : X) {old new : List X} {is_kept : Bool}
    → i < length xs → old ≡ filter p (take i xs) → is_kept ≡ p (get_or xs i d)
    → new ≡ old ++ (if is_kept then get_or xs i d ∷ [] else []) → new ≡ filter p (take (i + 1) xs)
kept_more p xs i d {old} {new} {is_kept} below before test step =
    step ∙ ap (λ kept. kept ++ (if is_kept then get_or xs i d ∷ [] else [])) before
    ∙ ap (λ b. filter p (take i xs) ++ (if b then get_or xs i d ∷ [] else [])) test ∙ sym (filter_more p xs i d below)

-- likewise what the next item has
pub kept_more_of : {X Y : Type 0} (f : X → Y) (p : Y → Bool) (xs : List X) (i : ℕ) (d : X) {old new : List Y} {is_kept : Bool}
    → i < length xs → old ≡ filter p (map f (take i xs)) → is_kept ≡ p (f (get_or xs i d))
    → new ≡ old ++ (if is_kept then f (get_or xs i d) ∷ [] else []) → new ≡ filter p (map f (take (i + 1) xs))
kept_more_of f p xs i d {old} {new} {is_kept} below before test step =
    let next : get_or (map f xs) i (f d) ≡ f (get_or xs i d) = get_or-map f xs i d in
    kept_more p (map f xs) i (f d) (rw length-map below) (before ∙ ap (filter p) (sym (take-map f i xs)))
    (test ∙ ap p (sym next)) (step ∙ ap (λ y. old ++ (if is_kept then y ∷ [] else [])) (sym next))
    ∙ ap (filter p) (take-map f (i + 1) xs)
