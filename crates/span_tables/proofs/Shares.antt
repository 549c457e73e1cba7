-- What columns take together, and how they share what a cell lacks.
use Rattle.std.proofs.Common.{◌≡◌, ◌≢◌, ◌∙◌, refl, sym, ap, ℕ, zero, suc, ◌+◌, ◌-◌, ◌*◌, ◌/◌, ◌%◌, ◌^◌, ◌<◌, ◌≤◌, ◌⊎◌, inl, inr, arith, Bool, true, false, cond, ◌&&◌, nat_lt, nat_le, List, length, get_or, set, ℤ, pos, neg_ℤ, ◌+ℤ◌, ◌≤ℤ◌, mul-le-mul_right}
use Rattle.std.specs.List.{All}
use Rattle.std.proofs.lemmas.Bool.{cases_eq, cases_lt, ltb-true, le-leb, lt-leb, lt-ltb, le-ltb, and_from, and_left, and_right, cond-true, cond-false}
use Rattle.std.proofs.lemmas.List.{length-set, get_or-set_same, get_or-set_other, ext_get_or}
use Rattle.std.proofs.lemmas.List.Elements.{All-get_or}
use Rattle.fixed_units.specs.Numbers.{IsWithin}
use Rattle.fixed_units.specs.Sums.{sum_to}
use Rattle.fixed_units.proofs.Signed.{signed}
use Rattle.fixed_units.proofs.Sums.{sum_to-zero, sum_to-add_one, sum_to_in, length-list_to}
use Rattle.span_tables.proofs.Listed.{get_or-list_to}
use Rattle.span_tables.specs.Widths.{IsColumn, width_over, share_of, shared}

-- ---- sums
pub width_over-zero : (widths : List ℤ) (first : ℕ) → width_over widths first 0 ≡ pos 0
unfolding width_over
width_over-zero widths first = sum_to-zero _

pub width_over-add_one : (widths : List ℤ) (first place : ℕ)
    → width_over widths first (place + 1) ≡ width_over widths first place +ℤ get_or widths (first + place) (pos 0)
unfolding width_over
width_over-add_one widths first place = sum_to-add_one place _

pub column_within : (widths : List ℤ) (column : ℕ) → All IsColumn widths → column < length widths → IsWithin (2 ^ 36) (get_or widths column (pos 0))
column_within widths column all h =
    let at = All-get_or IsColumn widths column (pos 0) h all in
    record { low = omega (arith, signed); high = omega (arith, signed) }

pub width_over_in : (widths : List ℤ) (first count : ℕ) → All IsColumn widths → first + count ≤ length widths
    → IsWithin (count * 2 ^ 36) (width_over widths first count)
unfolding width_over
width_over_in widths first count all h = sum_to_in count _ (λ i l. column_within widths (first + i) all (omega arith))

-- ---- shares
pub record IsSharedTo (before now : List ℤ) (first count lack place : ℕ) : Type 0 where
  pub size : length now ≡ length before
  pub done : (k : ℕ) → k < place → get_or now (first + k) (pos 0) ≡ get_or before (first + k) (pos 0) +ℤ pos (share_of lack count k)
  pub ahead : (c : ℕ) → c < first → get_or now c (pos 0) ≡ get_or before c (pos 0)
  pub behind : (c : ℕ) → first + place ≤ c → get_or now c (pos 0) ≡ get_or before c (pos 0)

pub shared_none : (before : List ℤ) (first count lack : ℕ) → IsSharedTo before before first count lack 0
shared_none before first count lack = record { size = refl; done = λ k h. absurd (omega arith); ahead = λ c h. refl; behind = λ c h. refl }

pub shared_more : (before now after : List ℤ) (first count lack place : ℕ) → IsSharedTo before now first count lack place
    → first + place < length before
    → after ≡ set now (first + place) (get_or now (first + place) (pos 0) +ℤ pos (share_of lack count place))
    → IsSharedTo before after first count lack (place + 1)
shared_more before now after first count lack place so_far l is = record {
  size = ap length is ∙ length-set now (first + place) _ ∙ so_far.size;
  done = λ k h. by k h (cases_eq k place);
  ahead = λ c h. let other : c ≢ first + place = omega arith in changed c other ∙ so_far.ahead c h;
  behind = λ c h. let other : c ≢ first + place = omega arith in changed c other ∙ so_far.behind c (omega arith);
}
  where
    value : ℤ
    value = get_or now (first + place) (pos 0) +ℤ pos (share_of lack count place)

    changed : (c : ℕ) → c ≢ first + place → get_or after c (pos 0) ≡ get_or now c (pos 0)
    changed c other = ap (λ (ws : List ℤ). get_or ws c (pos 0)) is ∙ get_or-set_other now (first + place) c value (pos 0) other

    by : (k : ℕ) → k < place + 1 → (k ≡ place) ⊎ (k ≡ place → ⊥) → get_or after (first + k) (pos 0) ≡ get_or before (first + k) (pos 0) +ℤ pos (share_of lack count k)
    by k h (inl same) =
        ap (λ (n : ℕ). get_or after (first + n) (pos 0)) same ∙ ap (λ (ws : List ℤ). get_or ws (first + place) (pos 0)) is
        ∙ get_or-set_same now (first + place) value (pos 0) (let s = so_far.size in omega arith)
        ∙ ap (λ (w : ℤ). w +ℤ pos (share_of lack count place)) (so_far.behind (first + place) (omega arith))
        ∙ ap (λ (n : ℕ). get_or before (first + n) (pos 0) +ℤ pos (share_of lack count n)) (sym same)
    by k h (inr other) =
        let apart : first + k ≢ first + place = λ e. other (omega arith) in
        changed (first + k) apart ∙ so_far.done k (omega arith)

pub shared_all : (before now : List ℤ) (first count lack : ℕ) → IsSharedTo before now first count lack count → now ≡ shared before first count lack
shared_all before now first count lack all = ext_get_or (pos 0) now (shared before first count lack) (all.size ∙ sym (length-list_to _ _)) (λ c h. at c (omega (arith, all.size)) ∙ sym (get_or-list_to _ c _ (pos 0) (omega (arith, all.size))))
  where
    at : (c : ℕ) → c < length before
        → get_or now c (pos 0)
        ≡ cond (nat_le first c && nat_lt c (first + count)) (get_or before c (pos 0) +ℤ pos (share_of lack count (c - first))) (get_or before c (pos 0))
    at c h = by (cases_lt c first) (cases_lt c (first + count))
      where
        by : (c < first) ⊎ (first ≤ c) → (c < first + count) ⊎ (first + count ≤ c)
            → get_or now c (pos 0)
            ≡ cond (nat_le first c && nat_lt c (first + count)) (get_or before c (pos 0) +ℤ pos (share_of lack count (c - first))) (get_or before c (pos 0))
        by (inl low) any = all.ahead c low ∙ sym (cond-false _ _ _ (and_left _ _ (lt-leb first c low)))
        by (inr low) (inr high) = all.behind c high ∙ sym (cond-false _ _ _ (and_right _ _ (le-ltb c (first + count) high)))
        by (inr low) (inl high) =
            let k : first + (c - first) ≡ c = omega arith in
            ap (λ (n : ℕ). get_or now n (pos 0)) (sym k) ∙ all.done (c - first) (omega arith)
            ∙ ap (λ (n : ℕ). get_or before n (pos 0) +ℤ pos (share_of lack count (c - first))) k
            ∙ sym (cond-true _ _ _ (and_from _ _ (le-leb first c low) (lt-ltb c (first + count) high)))

-- ---- how wide a column may become
pub share_within : (lack count place : ℕ) → 1 ≤ count → 1 ≤ lack → share_of lack count place ≤ lack
unfolding share_of
share_within lack count place some more = by (nat_lt place (lack % count)) refl
  where
    by : (t : Bool) → nat_lt place (lack % count) ≡ t → lack / count + cond t 1 0 ≤ lack
    by true e = let some_rest = ltb-true place (lack % count) e in let q = mul-le-mul_right (lack / count) some in omega arith
    by false e = let q = mul-le-mul_right (lack / count) some in omega arith

sum_low : (m n : ℕ) (f : ℕ → ℤ) → ((j : ℕ) → j < n → neg_ℤ (pos m) ≤ℤ f j) → neg_ℤ (pos (n * m)) ≤ℤ sum_to n f
unfolding sum_to
sum_low m zero f low = omega (arith, signed)
sum_low m (suc n) f low =
    let before = sum_low m n f (λ j h. low j (omega arith)) in
    let here = low n (omega arith) in
    omega (arith, signed)

-- a sum is at least one of its items and the least that all others may be
pub sum_but_one : (m n : ℕ) (f : ℕ → ℤ) (i : ℕ) → i < n → ((j : ℕ) → j < n → neg_ℤ (pos m) ≤ℤ f j) → (f i +ℤ pos m) ≤ℤ (sum_to n f +ℤ pos (n * m))
unfolding sum_to
sum_but_one m zero f i l low = absurd (omega arith)
sum_but_one m (suc n) f i l low =
    sum_last m n f i l low (λ h. sum_but_one m n f i h (λ j g. low j (omega arith)))
  where
    sum_last : (m n : ℕ) (f : ℕ → ℤ) (i : ℕ) → i < suc n → ((j : ℕ) → j < suc n → neg_ℤ (pos m) ≤ℤ f j)
        → (i < n → (f i +ℤ pos m) ≤ℤ (sum_to n f +ℤ pos (n * m))) → (f i +ℤ pos m) ≤ℤ (sum_to n f +ℤ f n +ℤ pos (suc n * m))
    sum_last m n f i l low next = by (cases_eq i n)
      where
        by : (i ≡ n) ⊎ (i ≡ n → ⊥) → (f i +ℤ pos m) ≤ℤ (sum_to n f +ℤ f n +ℤ pos (suc n * m))
        by (inl same) =
            let before = sum_low m n f (λ j h. low j (omega arith)) in
            let e = ap f same in
            omega (arith, signed)
        by (inr other) =
            let before = next (omega arith) in
            let here = low n (omega arith) in
            omega (arith, signed)

pub over_but_one : (widths : List ℤ) (first count place : ℕ) → place < count → All IsColumn widths → first + count ≤ length widths
    → (get_or widths (first + place) (pos 0) +ℤ pos (2 ^ 30)) ≤ℤ (width_over widths first count +ℤ pos (count * 2 ^ 30))
unfolding width_over
over_but_one widths first count place l all inside =
    sum_but_one (2 ^ 30) count (λ j. get_or widths (first + j) (pos 0)) place l
    (λ j h. (All-get_or IsColumn widths (first + j) (pos 0) (omega arith) all).low)
