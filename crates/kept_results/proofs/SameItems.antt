-- A list without repeats whose items all stand in another list, which is no longer: both have the same
-- items, in some order, so that sums over them are one.
use Rattle.std.proofs.Common.{◌≡◌, ◌∙◌, ◌⊎◌, inl, inr, refl, sym, ap, ℕ, zero, suc, ◌+◌, arith, List, [], ◌∷◌, length, Some, slice_get}
use Rattle.std.proofs.lemmas.List.Sums.{sum_by-cons}
use Rattle.std.proofs.lemmas.Option.{none-some, same_Some}
use Rattle.std.specs.List.{AllByRecursion, sum_by}
use Rattle.std.specs.Prelude.{⊤}

module _ {X : Type 0} where
  -- an item stands somewhere in a list
  abbrev pub IsAmong : List X → X → Type 0
  IsAmong ys x = (i : ℕ) × (slice_get ys i ≡ Some x)

  -- no two items are one
  abbrev pub AllApart : List X → Type 0
  AllApart [] = ⊤
  AllApart (x ∷ xs) = AllByRecursion (λ other. x ≡ other → ⊥) xs × AllApart xs

  -- the others, without the item at a place
  without : List X → ℕ → List X
  without [] i = []
  without (y ∷ ys) zero = ys
  without (y ∷ ys) (suc i) = y ∷ without ys i

  one_less : (ys : List X) (i : ℕ) (y : X) → slice_get ys i ≡ Some y → length ys ≡ length (without ys i) + 1
  unfolding without
  one_less [] i y h = absurd (none-some y h)
  one_less (z ∷ ys) zero y h = omega arith
  one_less (z ∷ ys) (suc i) y h = let r = one_less ys i y h in omega arith

  sum_less : (f : X → ℕ) (ys : List X) (i : ℕ) (y : X) → slice_get ys i ≡ Some y → sum_by f ys ≡ f y + sum_by f (without ys i)
  unfolding without
  sum_less f [] i y h = absurd (none-some y h)
  sum_less f (z ∷ ys) zero y h = sum_by-cons f z ys ∙ ap (λ (x : X). f x + sum_by f ys) (same_Some z y h)
  sum_less f (z ∷ ys) (suc i) y h = omega (arith, sum_less f ys i y h, sum_by-cons f z ys, sum_by-cons f z (without ys i))

  still_there : (ys : List X) (i j : ℕ) (y : X) → slice_get ys j ≡ Some y → (j ≡ i) ⊎ IsAmong (without ys i) y
  unfolding without
  still_there [] i j y h = absurd (none-some y h)
  still_there (z ∷ ys) zero zero y h = inl refl
  still_there (z ∷ ys) zero (suc j) y h = inr (j, h)
  still_there (z ∷ ys) (suc i) zero y h = inr (0, h)
  still_there (z ∷ ys) (suc i) (suc j) y h = elim (still_there ys i j y h) [ inl e ↦ inl (ap suc e) | inr k ↦ inr (suc k.0, k.1) ]

  others_among : (ys : List X) (i : ℕ) (x : X) → slice_get ys i ≡ Some x → (xs : List X) → AllByRecursion (λ other. x ≡ other → ⊥) xs → AllByRecursion (IsAmong ys) xs
      → AllByRecursion (IsAmong (without ys i)) xs
  others_among ys i x at [] h k = tt
  others_among ys i x at (y ∷ xs) h k = (
    elim (still_there ys i k.0.0 y k.0.1) [
      | inl e ↦ absurd (h.0 (same_Some x y (sym at ∙ ap (slice_get ys) (sym e) ∙ k.0.1)))
      | inr there ↦ there
    ],
    others_among ys i x at xs h.1 k.1,
  )

  pub same_sum : (f : X → ℕ) (xs ys : List X) → AllApart xs → AllByRecursion (IsAmong ys) xs → length ys ≡ length xs → sum_by f ys ≡ sum_by f xs
  same_sum f [] [] h k e = refl
  same_sum f [] (y ∷ ys) h k e = absurd (omega (arith, e))
  same_sum f (x ∷ xs) ys h k e =
      let rest = without ys k.0.0 in
      let as_many : length rest ≡ length xs = omega (arith, e, one_less ys k.0.0 x k.0.1) in
      let sums = same_sum f xs rest h.1 (others_among ys k.0.0 x k.0.1 xs h.0 k.1) as_many in
      omega (arith, sum_less f ys k.0.0 x k.0.1, sums, sum_by-cons f x xs)
