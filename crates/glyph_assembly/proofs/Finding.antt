-- The first item that passes a test, found by going along a list.
use Rattle.std.proofs.Common.{◌≡◌, ◌∙◌, refl, ap, ℕ, zero, suc, ◌+◌, ◌<◌, Bool, true, false, cond, List, [], ◌∷◌, length, get_or, take, arith, Some, None}
use Rattle.std.proofs.lemmas.List.{take_more}
use Rattle.std.proofs.lemmas.List.Folds.{find-append}
use Rattle.std.specs.List.{find}
use Rattle.std.specs.Option.{option_or}

module _ {X : Type 0} (p : X → Bool) where
  pub find_here : (xs : List X) (i : ℕ) (d : X) → i < length xs → find p (take i xs) ≡ None → p (get_or xs i d) ≡ true
      → find p xs ≡ Some (get_or xs i d)
  find_here [] i d within none is = absurd (omega arith)
  find_here (x ∷ xs) zero d within none is = rw is refl
  find_here (x ∷ xs) (suc i) d within none is = by (p x) refl (λ rest. find_here xs i d (omega arith) rest is)
    where
      by : (v : Bool) → p x ≡ v → (find p (take i xs) ≡ None → find p xs ≡ Some (get_or xs i d)) → find p (x ∷ xs) ≡ Some (get_or xs i d)
      by true e here = let l = rw e at none in cc
      by false e here = rw e (here (rw e at none))

  pub find_further : (xs : List X) (i : ℕ) (d : X) → i < length xs → find p (take i xs) ≡ None → p (get_or xs i d) ≡ false
      → find p (take (i + 1) xs) ≡ None
  find_further xs i d within none is =
      ap (find p) (take_more xs i d within) ∙ find-append p (take i xs) (get_or xs i d ∷ [])
      ∙ (λ k. option_or (none k) (cond (is k) (Some (get_or xs i d)) None))
