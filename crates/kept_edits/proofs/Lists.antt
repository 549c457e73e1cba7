-- Two lists that are mapped alike, and a list that is mapped after a change.
use Rattle.std.proofs.Common.{◌≡◌, ◌∙◌, refl, ap, ℕ, zero, suc, arith, List, [], ◌∷◌, length, map, Some, slice_get, insert, remove}

module _ {A : Type 0} where
  -- functions that agree at each place of two lists
  pub mapped_same : {B C : Type 0} (f : A → C) (g : B → C) (xs : List A) (ys : List B) → length xs ≡ length ys
      → ((i : ℕ) (x : A) (y : B) → slice_get xs i ≡ Some x → slice_get ys i ≡ Some y → f x ≡ g y) → map f xs ≡ map g ys
  mapped_same f g [] [] l h = refl
  mapped_same f g [] (y ∷ ys) l h = absurd (omega (arith, l))
  mapped_same f g (x ∷ xs) [] l h = absurd (omega (arith, l))
  mapped_same {B} {C} f g (x ∷ xs) (y ∷ ys) l h =
      ap (λ (z : C). z ∷ map f xs) (h 0 x y refl refl)
      ∙ ap (λ (rest : List C). g y ∷ rest) (mapped_same f g xs ys (omega (arith, l)) (λ i a b p q. h (suc i) a b p q))

  pub same_all : (f : A → A) (xs : List A) → ((i : ℕ) (x : A) → slice_get xs i ≡ Some x → f x ≡ x) → map f xs ≡ xs
  same_all f [] h = refl
  same_all f (x ∷ xs) h = ap (λ y. y ∷ map f xs) (h 0 x refl) ∙ ap (λ l. x ∷ l) (same_all f xs (λ i y e. h (suc i) y e))

-- ---- what is put in or taken out of a list, each item as something else

pub map-inserted : {X Y : Type 0} (f : X → Y) (xs : List X) (i : ℕ) (x : X) → map f (insert xs i x) ≡ insert (map f xs) i (f x)
map-inserted f [] zero x = refl
map-inserted f [] (suc i) x = refl
map-inserted f (y ∷ ys) zero x = refl
map-inserted f (y ∷ ys) (suc i) x = ap (λ l. f y ∷ l) (map-inserted f ys i x)

pub map-removed : {X Y : Type 0} (f : X → Y) (xs : List X) (i : ℕ) → map f (remove xs i) ≡ remove (map f xs) i
map-removed f [] zero = refl
map-removed f [] (suc i) = refl
map-removed f (y ∷ ys) zero = refl
map-removed f (y ∷ ys) (suc i) = ap (λ l. f y ∷ l) (map-removed f ys i)
