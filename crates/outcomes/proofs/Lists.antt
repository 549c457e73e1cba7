-- Numbers of a list that lie within a bound.
use Rattle.std.proofs.Common.{◌≡◌, ◌∙◌, sym, ap, ℕ, zero, suc, ◌+◌, ◌<◌, arith, List, [], ◌∷◌, ◌++◌, get_or, map, refl, take, All, ℤ, pos}
use Rattle.std.proofs.lemmas.List.{map-append}
use Rattle.std.proofs.lemmas.List.Elements.{All-append, All-cons, All-head, All-nil, All-tail}
use Rattle.fixed_units.specs.Numbers.{IsWithin}
use Rattle.fixed_units.specs.Sums.{list_to}
use Rattle.fixed_units.proofs.Sums.{list_to-add_one}
use Rattle.fixed_units.proofs.Within.{natural_in, widened}

-- what holds at each place of a list over places holds of it
pub All-list_to : {A : Type 0} (P : A → Type 0) (n : ℕ) (f : ℕ → A) → ((i : ℕ) → i < n → P (f i)) → All P (list_to n f)
unfolding list_to
All-list_to P zero f h = All-nil P
All-list_to P (suc n) f h =
    All-append P (list_to n f) (f n ∷ []) (All-list_to P n f (λ i l. h i (omega arith))) (All-cons P (f n) [] (h n (omega arith)) (All-nil P))

-- the item at a place, and another one past the end
pub All-at : {A : Type 0} (P : A → Type 0) (xs : List A) (i : ℕ) (other : A) → P other → All P xs → P (get_or xs i other)
All-at P [] i other p all = p
All-at P (x ∷ xs) zero other p all = All-head P x xs all
All-at P (x ∷ xs) (suc i) other p all = All-at P xs i other p (All-tail P x xs all)

pub number_at : {m : ℕ} (numbers : List ℤ) (i : ℕ) → All (IsWithin m) numbers → IsWithin m (get_or numbers i (pos 0))
number_at {m} numbers i all = All-at (IsWithin m) numbers i (pos 0) (widened m (natural_in 0) (omega arith)) all

-- a list over places with one item more
pub pushed_next : {A : Type 0} (i : ℕ) (f : ℕ → A) (before after : List A) (item : A) → after ≡ before ++ item ∷ [] → before ≡ list_to i f → item ≡ f i
    → after ≡ list_to (i + 1) f
pushed_next i f before after item pushed so_far made =
    pushed ∙ ap (λ xs. xs ++ item ∷ []) so_far ∙ ap (λ x. list_to i f ++ x ∷ []) made ∙ sym (list_to-add_one i f)

-- what holds of all items holds of the first ones
pub All-taken : {A : Type 0} (P : A → Type 0) (n : ℕ) (xs : List A) → All P xs → All P (take n xs)
All-taken P zero xs all = All-nil P
All-taken P (suc n) [] all = All-nil P
All-taken P (suc n) (x ∷ xs) all = All-cons P x (take n xs) (All-head P x xs all) (All-taken P n xs (All-tail P x xs all))

pub map_list_to : {A B : Type 0} (f : A → B) (n : ℕ) (g : ℕ → A) → map f (list_to n g) ≡ list_to n (λ i. f (g i))
unfolding list_to
map_list_to f zero g = refl
map_list_to f (suc n) g =
    map-append f (list_to n g) (g n ∷ []) ∙ ap (λ front. front ++ f (g n) ∷ []) (map_list_to f n g)
