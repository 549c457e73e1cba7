-- Sums and lists over places.
use Rattle.std.proofs.Common.{◌≡◌, ◌∙◌, refl, sym, ap, ℕ, zero, suc, add-one, ◌+◌, ◌*◌, ◌<◌, arith, [], ◌∷◌, ◌++◌, length, length-append, get_or, ℤ, pos, ◌+ℤ◌}
use Rattle.std.proofs.lemmas.Int.{by_lt_z}
use Rattle.std.proofs.lemmas.List.{get_or_append_left, get_or_push}
use Rattle.std.proofs.lemmas.Option.{slice_get-get_or}
use Rattle.std.specs.List.{slice_get}
use Rattle.std.specs.Prelude.{Some}
use Rattle.fixed_units.specs.Numbers.{IsWithin}
use Rattle.fixed_units.specs.Sums.{sum_to, list_to}
use Rattle.fixed_units.proofs.Signed.{signed}
use Rattle.fixed_units.proofs.Within.{natural_in, widened, sum_in}

-- ---- one place more
pub sum_to-zero : (f : ℕ → ℤ) → sum_to 0 f ≡ pos 0
unfolding sum_to
sum_to-zero f = refl

pub sum_to-add_one : (n : ℕ) (f : ℕ → ℤ) → sum_to (n + 1) f ≡ sum_to n f +ℤ f n
unfolding sum_to
sum_to-add_one n f = rw add-one refl

pub list_to-zero : {A : Type 0} (f : ℕ → A) → list_to 0 f ≡ []
unfolding list_to
list_to-zero f = refl

pub list_to-add_one : {A : Type 0} (n : ℕ) (f : ℕ → A) → list_to (n + 1) f ≡ list_to n f ++ f n ∷ []
unfolding list_to
list_to-add_one n f = rw add-one refl

-- ---- sums
-- how far a sum reaches
pub sum_to_in : {m : ℕ} (n : ℕ) (f : ℕ → ℤ) → ((i : ℕ) → i < n → IsWithin m (f i)) → IsWithin (n * m) (sum_to n f)
unfolding sum_to
sum_to_in {m} zero f p = widened (0 * m) (natural_in 0) (omega arith)
sum_to_in {m} (suc n) f p =
    widened (suc n * m) (sum_in (sum_to_in n f (λ i h. p i (omega arith))) (p n (omega arith))) (omega arith)

-- the sum of two is the sum of their sums
pub sum_to-+ℤ : (n : ℕ) (f g : ℕ → ℤ) → sum_to n (λ i. f i +ℤ g i) ≡ sum_to n f +ℤ sum_to n g
unfolding sum_to
sum_to-+ℤ zero f g = refl
sum_to-+ℤ (suc n) f g = let e = sum_to-+ℤ n f g in omega (arith, signed)

-- what is the same at each place has the same sum
pub sum_to_same : (n : ℕ) (f g : ℕ → ℤ) → ((i : ℕ) → i < n → f i ≡ g i) → sum_to n f ≡ sum_to n g
unfolding sum_to
sum_to_same zero f g same = refl
sum_to_same (suc n) f g same =
    let before = sum_to_same n f g (λ i h. same i (omega arith)) in
    let last = same n (omega arith) in
    omega (arith, signed)

-- ---- lists
pub length-list_to : {A : Type 0} (n : ℕ) (f : ℕ → A) → length (list_to n f) ≡ n
unfolding list_to
length-list_to zero f = refl
length-list_to (suc n) f = omega (arith, length-append (list_to n f) (f n ∷ []), length-list_to n f)

get_or-list_to : {A : Type 0} (n i : ℕ) (f : ℕ → A) (d : A) → i < n → get_or (list_to n f) i d ≡ f i
unfolding list_to
get_or-list_to zero i f d h = absurd (omega arith)
get_or-list_to (suc n) i f d h =
    let before = get_or-list_to n i f d in
    let long = length-list_to n f in
    by_lt_z (pos i) (pos n)
    (λ l. let below : i < n = omega (arith, signed) in
    get_or_append_left (list_to n f) (f n ∷ []) d i (omega (arith, long)) ∙ before below)
    (λ le. let last : i ≡ n = omega (arith, signed) in
    get_or_push (list_to n f) (f n) d i (long ∙ sym last) ∙ ap f (sym last))

-- the item at a place
pub slice_get-list_to : {A : Type 0} (n i : ℕ) (f : ℕ → A) → i < n → slice_get (list_to n f) i ≡ Some (f i)
slice_get-list_to n i f h =
    slice_get-get_or (list_to n f) i (f i) (omega (arith, h, length-list_to n f)) ∙ ap Some (get_or-list_to n i f (f i) h)
