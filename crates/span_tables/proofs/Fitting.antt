-- Columns never become narrower, and each cell fits the columns that it covers.
use Rattle.std.proofs.Common.{◌≡◌, ◌∙◌, refl, sym, ap, subst, ℕ, zero, suc, ◌+◌, ◌-◌, ◌*◌, ◌/◌, ◌%◌, ◌<◌, ◌≤◌, min, ◌⊎◌, inl, inr, arith, Bool, true, false, cond, ◌&&◌, nat_lt, List, [], ◌∷◌, length, ℤ, pos, ◌+ℤ◌, ◌-ℤ◌, ◌≤ℤ◌}
use Rattle.std.specs.Prelude.{int_lt, unsigned_abs}
use Rattle.std.proofs.lemmas.Bool.{cases_lt, ltb-true, ltb-false, le-leb, lt-ltb, and_from, cond-true}
use Rattle.std.proofs.lemmas.Bool.Decides.{nat_tests}
use Rattle.std.proofs.lemmas.List.{get_or_past}
use Rattle.std.proofs.lemmas.List.Elements.{All-head, All-tail, All-cons, All-weaker}
use Rattle.std.specs.List.{All}
use Rattle.fixed_units.specs.Sums.{sum_to}
use Rattle.fixed_units.proofs.Signed.{signed}
use Rattle.fixed_units.proofs.Sums.{sum_to-+ℤ, sum_to_same, length-list_to}
use Rattle.span_tables.proofs.Listed.{get_or-list_to}
use Rattle.span_tables.specs.declared.standing.Standing.{Standing}
use Rattle.span_tables.specs.Laws.{Fits}
use Rattle.span_tables.specs.Standing.{end_of}
use Rattle.span_tables.specs.Widths.{width_at, width_over, share_of, shared, widened_by, widened_all}
use Rattle.span_tables.proofs.Growing.{positive}
use Rattle.span_tables.proofs.Shares.{width_over-zero, width_over-add_one}

-- ---- the shares of a lack add up to it
share-is : (lack count place : ℕ) → share_of lack count place ≡ lack / count + cond (nat_lt place (lack % count)) 1 0
unfolding share_of
share-is lack count place = refl

one_share : (q r n s : ℕ) → s ≡ q + cond (nat_lt n r) 1 0 → n * q + min n r + s ≡ suc n * q + min (suc n) r
one_share q r n s e = grind (arith, nat_tests)

shares_so_far : (lack count n : ℕ) → sum_to n (λ place. pos (share_of lack count place)) ≡ pos (n * (lack / count) + min n (lack % count))
unfolding sum_to
shares_so_far lack count zero = let none : 0 ≡ 0 * (lack / count) + min 0 (lack % count) = omega arith in ap pos none
shares_so_far lack count (suc n) =
    let before = shares_so_far lack count n in
    let here = one_share (lack / count) (lack % count) n (share_of lack count n) (share-is lack count n) in
    omega (arith, signed)

shares_add_up : (lack count : ℕ) → 1 ≤ count → sum_to count (λ place. pos (share_of lack count place)) ≡ pos lack
shares_add_up lack count some =
    let all : count * (lack / count) + min count (lack % count) ≡ lack = omega arith in
    shares_so_far lack count count ∙ ap pos all

shared_at : (widths : List ℤ) (first count lack place : ℕ) → place < count → first + count ≤ length widths
    → width_at (shared widths first count lack) (first + place) ≡ width_at widths (first + place) +ℤ pos (share_of lack count place)
shared_at widths first count lack place l inside =
    let low : first ≤ first + place = omega arith in
    let high : first + place < first + count = omega arith in
    let same : first + place - first ≡ place = omega arith in
    get_or-list_to (length widths) (first + place) _ (pos 0) (omega arith)
    ∙ cond-true _ _ _ (and_from _ _ (le-leb first (first + place) low) (lt-ltb (first + place) (first + count) high))
    ∙ ap (λ (n : ℕ). width_at widths (first + place) +ℤ pos (share_of lack count n)) same

-- the columns of a cell are then as wide as it
pub shared_sum : (widths : List ℤ) (first count lack : ℕ) → 1 ≤ count → first + count ≤ length widths
    → width_over (shared widths first count lack) first count ≡ width_over widths first count +ℤ pos lack
unfolding width_over
shared_sum widths first count lack some inside =
    sum_to_same count _ _ (λ place l. shared_at widths first count lack place l inside)
    ∙ sum_to-+ℤ count (λ place. width_at widths (first + place)) (λ place. pos (share_of lack count place))
    ∙ ap (λ (z : ℤ). sum_to count (λ place. width_at widths (first + place)) +ℤ z) (shares_add_up lack count some)

-- ---- columns never become narrower
pub sum_wider : (n : ℕ) (f g : ℕ → ℤ) → ((i : ℕ) → f i ≤ℤ g i) → sum_to n f ≤ℤ sum_to n g
unfolding sum_to
sum_wider zero f g wider = omega (arith, signed)
sum_wider (suc n) f g wider = let before = sum_wider n f g wider in let here = wider n in omega (arith, signed)

over_wider : (v w : List ℤ) (first count : ℕ) → ((k : ℕ) → width_at v k ≤ℤ width_at w k) → width_over v first count ≤ℤ width_over w first count
unfolding width_over
over_wider v w first count wider = sum_wider count _ _ (λ i. wider (first + i))

shared_wider : (widths : List ℤ) (first count lack k : ℕ) → width_at widths k ≤ℤ width_at (shared widths first count lack) k
shared_wider widths first count lack k = by (cases_lt k (length widths))
  where
    at : (t : Bool) → width_at widths k ≤ℤ cond t (width_at widths k +ℤ pos (share_of lack count (k - first))) (width_at widths k)
    at true = omega (arith, signed)
    at false = omega (arith, signed)

    by : (k < length widths) ⊎ (length widths ≤ k) → width_at widths k ≤ℤ width_at (shared widths first count lack) k
    by (inl l) = subst (λ (z : ℤ). width_at widths k ≤ℤ z) (sym (get_or-list_to (length widths) k _ (pos 0) l)) (at _)
    by (inr past) =
        let v = get_or_past widths k (pos 0) past in
        let w = get_or_past (shared widths first count lack) k (pos 0) (omega (arith, length-list_to {A = ℤ} (length widths))) in
        omega (arith, signed)

pub widened_wider : (widths : List ℤ) (at : Standing) (k : ℕ) → width_at widths k ≤ℤ width_at (widened_by widths at) k
widened_wider widths at k = by (nat_lt 1 at.cell.span.columns && int_lt (pos 0) lack)
  where
    lack : ℤ
    lack = at.cell.width -ℤ width_over widths at.column at.cell.span.columns

    by : (t : Bool) → width_at widths k ≤ℤ width_at (cond t (shared widths at.column at.cell.span.columns (unsigned_abs lack)) widths) k
    by true = shared_wider widths at.column at.cell.span.columns (unsigned_abs lack) k
    by false = omega (arith, signed)

pub all_wider : (widths : List ℤ) (cells : List Standing) (k : ℕ) → width_at widths k ≤ℤ width_at (widened_all widths cells) k
all_wider widths [] k = omega (arith, signed)
all_wider widths (at ∷ cells) k =
    let here = widened_wider widths at k in
    let rest = all_wider (widened_by widths at) cells k in
    omega (arith, signed)

pub length-widened_by : (widths : List ℤ) (at : Standing) → length (widened_by widths at) ≡ length widths
length-widened_by widths at = by (nat_lt 1 at.cell.span.columns && int_lt (pos 0) lack)
  where
    lack : ℤ
    lack = at.cell.width -ℤ width_over widths at.column at.cell.span.columns

    by : (t : Bool) → length (cond t (shared widths at.column at.cell.span.columns (unsigned_abs lack)) widths) ≡ length widths
    by true = length-list_to (length widths) _
    by false = refl

-- ---- a cell fits its columns once it had its turn
pub record IsReady (widths : List ℤ) (at : Standing) : Type 0 where
  pub some : 1 ≤ at.cell.span.columns
  pub inside : end_of at ≤ length widths
  pub alone : at.cell.span.columns ≡ 1 → at.cell.width ≤ℤ width_at widths at.column

fits_several : (widths : List ℤ) (at : Standing) → IsReady widths at → 1 < at.cell.span.columns → (t : Bool)
    → int_lt (pos 0) (at.cell.width -ℤ width_over widths at.column at.cell.span.columns) ≡ t
    → Fits (cond t (shared widths at.column at.cell.span.columns (unsigned_abs (at.cell.width -ℤ width_over widths at.column at.cell.span.columns))) widths) at
fits_several widths at ready more true e =
    let lack = positive (at.cell.width -ℤ width_over widths at.column at.cell.span.columns) e in
    let sum = shared_sum widths at.column at.cell.span.columns (unsigned_abs (at.cell.width -ℤ width_over widths at.column at.cell.span.columns)) ready.some ready.inside in
    let same = lack.0 in
    omega (arith, signed)
fits_several widths at ready more false e = omega (arith, signed, e)

fits_alone : (widths : List ℤ) (at : Standing) → IsReady widths at → at.cell.span.columns ≡ 1 → Fits widths at
fits_alone widths at ready one =
    let sum = ap (width_over widths at.column) one in
    let first = width_over-add_one widths at.column 0 in
    let none = width_over-zero widths at.column in
    let same = ap (λ (k : ℕ). width_at widths k) (plus_none at.column) in
    let wide = ready.alone one in
    let zero_one = ap (width_over widths at.column) none_one in
    omega (arith, signed)
  where
    plus_none : (n : ℕ) → n + 0 ≡ n
    plus_none n = omega arith

    none_one : 0 + 1 ≡ 1
    none_one = omega arith

fits_one : (widths : List ℤ) (at : Standing) → IsReady widths at → Fits (widened_by widths at) at
fits_one widths at ready = by (nat_lt 1 at.cell.span.columns) refl
  where
    lack : ℤ
    lack = at.cell.width -ℤ width_over widths at.column at.cell.span.columns

    by : (t : Bool) → nat_lt 1 at.cell.span.columns ≡ t
        → Fits (cond (t && int_lt (pos 0) lack) (shared widths at.column at.cell.span.columns (unsigned_abs lack)) widths) at
    by true e = fits_several widths at ready (ltb-true 1 at.cell.span.columns e) (int_lt (pos 0) lack) refl
    by false e = fits_alone widths at ready (let few = ltb-false 1 at.cell.span.columns e in let some = ready.some in omega arith)

ready_later : (widths : List ℤ) (at first : Standing) → IsReady widths at → IsReady (widened_by widths first) at
ready_later widths at first ready = record {
  some = ready.some;
  inside = let long = length-widened_by widths first in let inside = ready.inside in omega arith;
  alone = λ one. let wide = ready.alone one in let wider = widened_wider widths first at.column in omega (arith, signed);
}

pub fits_all : (widths : List ℤ) (cells : List Standing) → All (IsReady widths) cells → All (Fits (widened_all widths cells)) cells
fits_all widths [] ready = λ k d h. absurd (omega arith)
fits_all widths (at ∷ cells) ready =
    let here = fits_one widths at (All-head (IsReady widths) at cells ready) in
    let wider = over_wider (widened_by widths at) (widened_all (widened_by widths at) cells) at.column at.cell.span.columns (all_wider (widened_by widths at) cells) in
    All-cons (Fits (widened_all (widened_by widths at) cells)) at cells (omega (arith, signed))
    (fits_all (widened_by widths at) cells
    (All-weaker (IsReady widths) (IsReady (widened_by widths at)) (λ other p. ready_later widths other at p) cells (All-tail (IsReady widths) at cells ready)))
