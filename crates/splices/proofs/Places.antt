-- Places in a list in which one item is put in, taken out or exchanged.
use Rattle.std.proofs.Common.{◌≡◌, refl, sym, ap, ℕ, zero, suc, ◌+◌, ◌<◌, ◌≤◌, arith, List, [], ◌∷◌, length, insert, remove, set, Some, slice_get}
use Rattle.std.proofs.lemmas.Option.{none-some, same_Some}

module _ {A : Type 0} where
  -- ---- what stands there

  pub some_at : (xs : List A) (i : ℕ) → i < length xs → (x : A) × (slice_get xs i ≡ Some x)
  some_at [] i w = absurd (omega (arith, w))
  some_at (x ∷ xs) zero w = (x, refl)
  some_at (x ∷ xs) (suc i) w = some_at xs i (omega (arith, w))

  pub insert_here : (xs : List A) (i : ℕ) (x : A) → i ≤ length xs → slice_get (insert xs i x) i ≡ Some x
  insert_here xs zero x w = refl
  insert_here [] (suc i) x w = absurd (omega (arith, w))
  insert_here (y ∷ xs) (suc i) x w = insert_here xs i x (omega (arith, w))

  pub set_here : (xs : List A) (i : ℕ) (x y : A) → slice_get xs i ≡ Some x → slice_get (set xs i y) i ≡ Some y
  set_here [] i x y at = absurd (none-some x at)
  set_here (z ∷ xs) zero x y at = refl
  set_here (z ∷ xs) (suc i) x y at = set_here xs i x y at

  -- ---- what stands elsewhere

  pub insert_before : (xs : List A) (i j : ℕ) (x : A) → i ≤ length xs → j < i → slice_get (insert xs i x) j ≡ slice_get xs j
  insert_before xs zero j x w l = absurd (omega (arith, l))
  insert_before [] (suc i) j x w l = absurd (omega (arith, w))
  insert_before (y ∷ xs) (suc i) zero x w l = refl
  insert_before (y ∷ xs) (suc i) (suc j) x w l = insert_before xs i j x (omega (arith, w)) (omega (arith, l))

  pub insert_behind : (xs : List A) (i j : ℕ) (x : A) → i ≤ length xs → i ≤ j → slice_get (insert xs i x) (suc j) ≡ slice_get xs j
  insert_behind xs zero j x w l = refl
  insert_behind [] (suc i) j x w l = absurd (omega (arith, w))
  insert_behind (y ∷ xs) (suc i) zero x w l = absurd (omega (arith, l))
  insert_behind (y ∷ xs) (suc i) (suc j) x w l = insert_behind xs i j x (omega (arith, w)) (omega (arith, l))

  pub remove_before : (xs : List A) (i j : ℕ) → i < length xs → j < i → slice_get (remove xs i) j ≡ slice_get xs j
  remove_before [] i j w l = absurd (omega (arith, w))
  remove_before (y ∷ xs) zero j w l = absurd (omega (arith, l))
  remove_before (y ∷ xs) (suc i) zero w l = refl
  remove_before (y ∷ xs) (suc i) (suc j) w l = remove_before xs i j (omega (arith, w)) (omega (arith, l))

  pub remove_behind : (xs : List A) (i j : ℕ) → i < length xs → i ≤ j → slice_get (remove xs i) j ≡ slice_get xs (suc j)
  remove_behind [] i j w l = absurd (omega (arith, w))
  remove_behind (y ∷ xs) zero j w l = refl
  remove_behind (y ∷ xs) (suc i) zero w l = absurd (omega (arith, l))
  remove_behind (y ∷ xs) (suc i) (suc j) w l = remove_behind xs i j (omega (arith, w)) (omega (arith, l))

  pub set_elsewhere : (xs : List A) (i j : ℕ) (x : A) → (j ≡ i → ⊥) → slice_get (set xs i x) j ≡ slice_get xs j
  set_elsewhere [] i j x other = refl
  set_elsewhere (y ∷ xs) zero zero x other = absurd (other refl)
  set_elsewhere (y ∷ xs) zero (suc j) x other = refl
  set_elsewhere (y ∷ xs) (suc i) zero x other = refl
  set_elsewhere (y ∷ xs) (suc i) (suc j) x other = set_elsewhere xs i j x (λ e. other (ap suc e))

  -- ---- lengths

  pub length_insert : (xs : List A) (i : ℕ) (x : A) → i ≤ length xs → length (insert xs i x) ≡ length xs + 1
  length_insert xs zero x w = omega arith
  length_insert [] (suc i) x w = absurd (omega (arith, w))
  length_insert (y ∷ xs) (suc i) x w = omega (arith, length_insert xs i x (omega (arith, w)))

  pub length_remove : (xs : List A) (i : ℕ) → i < length xs → length (remove xs i) + 1 ≡ length xs
  length_remove [] i w = absurd (omega (arith, w))
  length_remove (y ∷ xs) zero w = omega arith
  length_remove (y ∷ xs) (suc i) w = omega (arith, length_remove xs i (omega (arith, w)))

  -- ---- there and back

  pub remove_inserted : (xs : List A) (i : ℕ) (x : A) → i ≤ length xs → remove (insert xs i x) i ≡ xs
  remove_inserted xs zero x w = refl
  remove_inserted [] (suc i) x w = absurd (omega (arith, w))
  remove_inserted (y ∷ xs) (suc i) x w = ap (λ l. y ∷ l) (remove_inserted xs i x (omega (arith, w)))

  pub insert_removed : (xs : List A) (i : ℕ) (x : A) → slice_get xs i ≡ Some x → insert (remove xs i) i x ≡ xs
  insert_removed [] i x at = absurd (none-some x at)
  insert_removed (y ∷ xs) zero x at = ap (λ z. z ∷ xs) (sym (same_Some y x at))
  insert_removed (y ∷ xs) (suc i) x at = ap (λ l. y ∷ l) (insert_removed xs i x at)

  pub set_back : (xs : List A) (i : ℕ) (x y : A) → slice_get xs i ≡ Some x → set (set xs i y) i x ≡ xs
  set_back [] i x y at = absurd (none-some x at)
  set_back (z ∷ xs) zero x y at = ap (λ w. w ∷ xs) (sym (same_Some z x at))
  set_back (z ∷ xs) (suc i) x y at = ap (λ l. z ∷ l) (set_back xs i x y at)
