-- Numbers among others, none of them twice: as many as those are all of them.
use Rattle.std.proofs.Common.{◌≡◌, ◌∙◌, ◌⊎◌, inl, inr, refl, sym, ap, ℕ, ◌≤◌, arith, Bool, true, false, ◌||◌, List, [], ◌∷◌, ◌++◌, length, eqb, eqb-true}
use Rattle.std.proofs.lemmas.Map.Keys.{IsDistinct-cons, IsDistinct-head, IsDistinct-tail}
use Rattle.std.proofs.lemmas.Map.Made.{length-le_from_is_member}
use Rattle.std.specs.Cmp.{nat_eq_equiv}
use Rattle.std.specs.List.{AllByRecursion, IsDistinct, list_any}

-- ---- whether a list has a number

abbrev pub has : List ℕ → ℕ → Bool
has xs q = list_any (eqb q) xs

pub either_true : (a b : Bool) → (a || b) ≡ true → (a ≡ true) ⊎ (b ≡ true)
either_true true b h = inl refl
either_true false b h = inr h

pub second_true : (a b : Bool) → b ≡ true → (a || b) ≡ true
second_true true b h = refl
second_true false b h = h

both_false : (a b : Bool) → (a || b) ≡ false → (a ≡ false) × (b ≡ false)
both_false true b h = let g : true ≡ false = h in cc
both_false false b h = (refl, h)

pub yes_or_no : (b : Bool) → (b ≡ true) ⊎ (b ≡ false)
yes_or_no true = inl refl
yes_or_no false = inr refl

pub not_both : (b : Bool) → b ≡ true → b ≡ false → ⊥
not_both b h k = let g : true ≡ false = sym h ∙ k in cc

pub no_from : (b : Bool) → (b ≡ true → ⊥) → b ≡ false
no_from true none = absurd (none refl)
no_from false none = refl

-- each differs from a number that isn't there
pub all_differ : (q : ℕ) (xs : List ℕ) → has xs q ≡ false → AllByRecursion (λ y. eqb q y ≡ false) xs
all_differ q [] none = tt
all_differ q (x ∷ xs) none =
    let both = both_false (eqb q x) (has xs q) none in
    (both.0, all_differ q xs both.1)

pub has_both : (xs ys : List ℕ) (q : ℕ) → has (xs ++ ys) q ≡ (has xs q || has ys q)
has_both [] ys q = refl
has_both (x ∷ xs) ys q = ap (λ (b : Bool). eqb q x || b) (has_both xs ys q) ∙ three (eqb q x) (has xs q) (has ys q)
  where
    three : (a b c : Bool) → (a || (b || c)) ≡ ((a || b) || c)
    three true b c = refl
    three false b c = refl

-- ---- none of them twice

pub nothing_twice : IsDistinct eqb []
unfolding IsDistinct
nothing_twice = tt

pub distinct_more : (q : ℕ) (xs : List ℕ) → has xs q ≡ false → IsDistinct eqb xs → IsDistinct eqb (q ∷ xs)
distinct_more q xs none d = IsDistinct-cons eqb q xs (all_differ q xs none) d

-- two lists that have no number in common
pub distinct_both : (xs ys : List ℕ) → IsDistinct eqb xs → IsDistinct eqb ys → ((q : ℕ) → has xs q ≡ true → has ys q ≡ true → ⊥) → IsDistinct eqb (xs ++ ys)
distinct_both [] ys d e apart = e
distinct_both (x ∷ xs) ys d e apart =
    let here : has (x ∷ xs) x ≡ true = ap (λ (b : Bool). b || has xs x) (nat_eq_equiv.refl x) in
    let none : has (xs ++ ys) x ≡ false = no_from (has (xs ++ ys) x) (λ there.
    elim (either_true (has xs x) (has ys x) (sym (has_both xs ys x) ∙ there)) [
      | inl again ↦ differs_from (x) xs (IsDistinct-head eqb x xs d) again
      | inr other ↦ apart x here other
    ]) in
    distinct_more x (xs ++ ys) none
    (distinct_both xs ys (IsDistinct-tail eqb x xs d) e (λ q h k. apart q (second_true (eqb q x) (has xs q) h) k))
  where
    differs_from : (q : ℕ) (zs : List ℕ) → AllByRecursion (λ y. eqb q y ≡ false) zs → has zs q ≡ true → ⊥
    differs_from q [] h k = let g : false ≡ true = k in cc
    differs_from q (z ∷ zs) h k =
        elim (either_true (eqb q z) (has zs q) k) [
          | inl same ↦ not_both (eqb q z) same h.0
          | inr there ↦ differs_from q zs h.1 there
        ]

-- numbers among others, as many as those, are all of them
pub all_of : (xs ys : List ℕ) → IsDistinct eqb xs → ((q : ℕ) → has xs q ≡ true → has ys q ≡ true) → length ys ≤ length xs → (q : ℕ) → has ys q ≡ true → has xs q ≡ true
all_of xs ys d among few q there =
    elim (yes_or_no (has xs q)) [
      | inl same ↦ same
      | inr missing ↦
          let more = length-le_from_is_member nat_eq_equiv (q ∷ xs) ys (distinct_more q xs missing d) (λ k h. one_more k h (yes_or_no (eqb k q))) in
          absurd (omega (arith, more, few))
    ]
  where
    one_more : (k : ℕ) → has (q ∷ xs) k ≡ true → (eqb k q ≡ true) ⊎ (eqb k q ≡ false) → has ys k ≡ true
    one_more k h (inl same) = ap (has ys) (eqb-true k q same) ∙ there
    one_more k h (inr differs) =
        elim (either_true (eqb k q) (has xs k) h) [
          | inl same ↦ absurd (not_both (eqb k q) same differs)
          | inr old ↦ among k old
        ]
