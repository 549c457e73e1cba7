-- The core of the only child that isn't space-like, where the children are gone through.
use Rattle.std.proofs.Common.{◌≡◌, ◌∙◌, refl, sym, ap, ℕ, ◌+◌, ◌<◌, true, false, not, cond, List, [], ◌∷◌, ◌++◌, length, take, get_or, Option, None, arith}
use Rattle.std.proofs.lemmas.List.{append-nil, length-append}
use Rattle.std.proofs.lemmas.List.Elements.{filter_more}
use Rattle.embellished.specs.Facts.{but_space_like, only_core}
use Rattle.embellished.specs.declared.facts.Core.{Core}
use Rattle.embellished.specs.declared.facts.Facts.{Facts}

-- the core of the last, where there is one
abbrev pub last_core : List Facts → Option Core
last_core [] = None
last_core (kid ∷ []) = kid.core
last_core (kid ∷ next ∷ kids) = last_core (next ∷ kids)

last_of : (kids : List Facts) (kid : Facts) → last_core (kids ++ kid ∷ []) ≡ kid.core
last_of [] kid = refl
last_of (first ∷ []) kid = refl
last_of (first ∷ next ∷ kids) kid = last_of (next ∷ kids) kid

-- it is that of the only one exactly where there is one
pub last_is_only : (kids : List Facts) → length kids ≡ 1 → last_core kids ≡ only_core kids
last_is_only [] h = absurd (omega (arith, h))
last_is_only (kid ∷ []) h = refl
last_is_only (kid ∷ next ∷ kids) h = absurd (omega (arith, h))

pub none_is_only : (kids : List Facts) → (length kids ≡ 1 → ⊥) → None ≡ only_core kids
none_is_only [] h = refl
none_is_only (kid ∷ []) h = absurd (h refl)
none_is_only (kid ∷ next ∷ kids) h = refl

-- one child more
module _ (flow : List Facts) (i : ℕ) (d : Facts) (within : i < length flow) (others : ℕ) (core : Option Core)
    (count : others ≡ length (but_space_like (take i flow))) (last : core ≡ last_core (but_space_like (take i flow))) where
  abbrev IsFound : ℕ → Option Core → Type 0
  IsFound n c = (n ≡ length (but_space_like (take (i + 1) flow))) × (c ≡ last_core (but_space_like (take (i + 1) flow)))

  more : but_space_like (take (i + 1) flow)
      ≡ but_space_like (take i flow) ++ cond (not (get_or flow i d).space_like) (get_or flow i d ∷ []) []
  more = filter_more (λ (kid : Facts). not kid.space_like) flow i d within

  pub with_other : (get_or flow i d).space_like ≡ false → IsFound (others + 1) (get_or flow i d).core
  with_other h =
      let next : but_space_like (take (i + 1) flow) ≡ but_space_like (take i flow) ++ get_or flow i d ∷ [] =
      more ∙ ap (λ b. but_space_like (take i flow) ++ cond (not b) (get_or flow i d ∷ []) []) h in
      rw next (omega (arith, count, length-append (but_space_like (take i flow)) (get_or flow i d ∷ [])), sym (last_of (but_space_like (take i flow)) (get_or flow i d)))

  pub without_other : (get_or flow i d).space_like ≡ true → IsFound others core
  without_other h =
      let next : but_space_like (take (i + 1) flow) ≡ but_space_like (take i flow) =
      more ∙ ap (λ b. but_space_like (take i flow) ++ cond (not b) (get_or flow i d ∷ []) []) h ∙ append-nil (but_space_like (take i flow)) in
      rw next (count, last)
