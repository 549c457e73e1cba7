-- What is read of answers, one after another.
use Rattle.std.proofs.Common.{◌≡◌, ◌∙◌, sym, ap, ℕ, ◌+◌, ◌<◌, List, [], ◌∷◌, ◌++◌, length, map, get_or, take}
use Rattle.std.proofs.lemmas.List.{map-append, take_more}
use Rattle.layout_model.specs.declared.outcome.Answer.{Answer}

pub told_next : {X Y : Type 0} (told : X → Answer) (read : Answer → Y) (xs : List X) (i : ℕ) (x : X) (before after : List Y) (y : Y) → i < length xs → x ≡ get_or xs i x
    → before ≡ map read (map told (take i xs)) → y ≡ read (told x) → after ≡ before ++ y ∷ [] → after ≡ map read (map told (take (i + 1) xs))
told_next {X} {Y} told read xs i x before after y within is so_far e pushed =
    pushed ∙ ap (λ (l : List Y). l ++ y ∷ []) so_far
    ∙ ap (λ (z : Y). map read (map told (take i xs)) ++ z ∷ []) (e ∙ ap (λ (w : X). read (told w)) is)
    ∙ sym (ap (λ (l : List X). map read (map told l)) (take_more xs i x within)
    ∙ ap (map read) (map-append told (take i xs) (get_or xs i x ∷ []))
    ∙ map-append read (map told (take i xs)) (told (get_or xs i x) ∷ []))
