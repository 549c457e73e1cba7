-- Lists of which one item is set, or that have one item more.
use Rattle.std.proofs.Common.{◌≡◌, ◌∙◌, ◌⊎◌, inl, inr, refl, sym, ap, subst, ℕ, zero, suc, ◌+◌, ◌<◌, arith, List, [], ◌∷◌, ◌++◌, length, map, set, take, get_or, Some, slice_get}
use Rattle.std.proofs.lemmas.List.{take_more}
use Rattle.std.proofs.lemmas.Option.{none-some, same_Some}
use Rattle.std.specs.List.{AllByRecursion}

-- ---- what holds of all

module _ {X : Type 0} where
  pub all_both : (P : X → Type 0) (xs ys : List X) → AllByRecursion P xs → AllByRecursion P ys → AllByRecursion P (xs ++ ys)
  all_both P [] ys h k = k
  all_both P (x ∷ xs) ys h k = (h.0, all_both P xs ys h.1 k)

  pub all_then : (P Q : X → Type 0) → ((x : X) → P x → Q x) → (xs : List X) → AllByRecursion P xs → AllByRecursion Q xs
  all_then P Q f [] h = tt
  all_then P Q f (x ∷ xs) h = (f x h.0, all_then P Q f xs h.1)

  pub all_mapped : {Y : Type 0} (P : X → Type 0) (Q : Y → Type 0) (g : X → Y) → ((x : X) → P x → Q (g x)) → (xs : List X) → AllByRecursion P xs → AllByRecursion Q (map g xs)
  all_mapped P Q g f [] h = tt
  all_mapped P Q g f (x ∷ xs) h = (f x h.0, all_mapped P Q g f xs h.1)

  -- one item more
  pub all_more : (P : X → Type 0) (xs : List X) (i : ℕ) (x : X) → i < length xs → x ≡ get_or xs i x → AllByRecursion P (take i xs) → P x → AllByRecursion P (take (i + 1) xs)
  all_more P xs i x within is h k =
      subst (AllByRecursion P) (sym (take_more xs i x within))
      (all_both P (take i xs) (get_or xs i x ∷ []) h (subst P is k, tt))

  -- ---- one item is set

  -- what is there was set, or was there
  pub set_cases : (xs : List X) (i j : ℕ) (x y : X) → slice_get (set xs i x) j ≡ Some y → ((j ≡ i) × (y ≡ x)) ⊎ (slice_get xs j ≡ Some y)
  set_cases [] i j x y h = inr h
  set_cases (z ∷ xs) zero zero x y h = inl (refl, sym (same_Some x y h))
  set_cases (z ∷ xs) zero (suc j) x y h = inr h
  set_cases (z ∷ xs) (suc i) zero x y h = inr h
  set_cases (z ∷ xs) (suc i) (suc j) x y h = elim (set_cases xs i j x y h) [ inl p ↦ inl (ap suc p.0, p.1) | inr q ↦ inr q ]

  -- what was there is still there, or its place was set
  pub still_cases : (xs : List X) (i j : ℕ) (x y : X) → slice_get xs j ≡ Some y → ((j ≡ i) × (slice_get (set xs i x) j ≡ Some x)) ⊎ (slice_get (set xs i x) j ≡ Some y)
  still_cases [] i j x y h = absurd (none-some y h)
  still_cases (z ∷ xs) zero zero x y h = inl (refl, refl)
  still_cases (z ∷ xs) zero (suc j) x y h = inr h
  still_cases (z ∷ xs) (suc i) zero x y h = inr h
  still_cases (z ∷ xs) (suc i) (suc j) x y h = elim (still_cases xs i j x y h) [ inl p ↦ inl (ap suc p.0, p.1) | inr q ↦ inr q ]

  pub set_here : (xs : List X) (i : ℕ) (x y : X) → slice_get xs i ≡ Some y → slice_get (set xs i x) i ≡ Some x
  set_here [] i x y h = absurd (none-some y h)
  set_here (z ∷ xs) zero x y h = refl
  set_here (z ∷ xs) (suc i) x y h = set_here xs i x y h

  pub set_twice : (xs : List X) (i : ℕ) (x y : X) → set (set xs i x) i y ≡ set xs i y
  set_twice [] i x y = refl
  set_twice (z ∷ xs) zero x y = refl
  set_twice (z ∷ xs) (suc i) x y = ap (λ (ys : List X). z ∷ ys) (set_twice xs i x y)

  -- what was there is set again
  pub set_same : (xs : List X) (i : ℕ) (x : X) → slice_get xs i ≡ Some x → set xs i x ≡ xs
  set_same [] i x h = absurd (none-some x h)
  set_same (z ∷ xs) zero x h = ap (λ (y : X). y ∷ xs) (sym (same_Some z x h))
  set_same (z ∷ xs) (suc i) x h = ap (λ (ys : List X). z ∷ ys) (set_same xs i x h)

  pub set_back : (xs : List X) (i : ℕ) (x y : X) → slice_get xs i ≡ Some y → set (set xs i x) i y ≡ xs
  set_back xs i x y h = set_twice xs i x y ∙ set_same xs i y h

  -- what is there was set, or stands at another place
  pub set_other : (xs : List X) (i j : ℕ) (x y : X) → slice_get (set xs i x) j ≡ Some y → ((j ≡ i) × (y ≡ x)) ⊎ ((j ≡ i → ⊥) × (slice_get xs j ≡ Some y))
  set_other [] i j x y h = absurd (none-some y h)
  set_other (z ∷ xs) zero zero x y h = inl (refl, sym (same_Some x y h))
  set_other (z ∷ xs) zero (suc j) x y h = inr (λ e. omega (arith, e), h)
  set_other (z ∷ xs) (suc i) zero x y h = inr (λ e. omega (arith, e), h)
  set_other (z ∷ xs) (suc i) (suc j) x y h = elim (set_other xs i j x y h) [ inl p ↦ inl (ap suc p.0, p.1) | inr q ↦ inr (λ e. q.0 (omega (arith, e)), q.1) ]

  -- what stands at another place stays
  pub set_elsewhere : (xs : List X) (i j : ℕ) (x : X) → (j ≡ i → ⊥) → slice_get (set xs i x) j ≡ slice_get xs j
  set_elsewhere [] i j x other = refl
  set_elsewhere (z ∷ xs) zero zero x other = absurd (other refl)
  set_elsewhere (z ∷ xs) zero (suc j) x other = refl
  set_elsewhere (z ∷ xs) (suc i) zero x other = refl
  set_elsewhere (z ∷ xs) (suc i) (suc j) x other = set_elsewhere xs i j x (λ e. other (ap suc e))

  -- lists with the same at each place are one
  pub same_places : (xs ys : List X) → ((i : ℕ) → slice_get xs i ≡ slice_get ys i) → xs ≡ ys
  same_places [] [] h = refl
  same_places [] (y ∷ ys) h = absurd (none-some y (h 0))
  same_places (x ∷ xs) [] h = absurd (none-some x (sym (h 0)))
  same_places (x ∷ xs) (y ∷ ys) h =
      ap (λ (z : X). z ∷ xs) (same_Some x y (h 0)) ∙ ap (λ (zs : List X). y ∷ zs) (same_places xs ys (λ i. h (suc i)))

  -- ---- one item more at the end

  pub push_cases : (xs : List X) (x y : X) (j : ℕ) → slice_get (xs ++ x ∷ []) j ≡ Some y → (y ≡ x) ⊎ (slice_get xs j ≡ Some y)
  push_cases [] x y zero h = inl (sym (same_Some x y h))
  push_cases [] x y (suc j) h = inr h
  push_cases (z ∷ xs) x y zero h = inr h
  push_cases (z ∷ xs) x y (suc j) h = push_cases xs x y j h

  pub pushed : (xs : List X) (x : X) → slice_get (xs ++ x ∷ []) (length xs) ≡ Some x
  pushed [] x = refl
  pushed (z ∷ xs) x = pushed xs x

  pub still_first : (xs ys : List X) (i : ℕ) (x : X) → slice_get xs i ≡ Some x → slice_get (xs ++ ys) i ≡ Some x
  still_first [] ys i x h = absurd (none-some x h)
  still_first (z ∷ xs) ys zero x h = h
  still_first (z ∷ xs) ys (suc i) x h = still_first xs ys i x h

  -- the same of two things that stand at one place
  pub one_place : (xs : List X) (i j : ℕ) (x y : X) → i ≡ j → slice_get xs i ≡ Some x → slice_get xs j ≡ Some y → x ≡ y
  one_place xs i j x y e h k = same_Some x y (sym h ∙ ap (slice_get xs) e ∙ k)
