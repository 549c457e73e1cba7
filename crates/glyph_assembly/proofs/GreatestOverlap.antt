-- The greatest overlap that reaches a target: that there is one, and how long the assembly then is.
use Rattle.std.proofs.Common.{◌≡◌, ◌∙◌, refl, ap, sym, subst, ℕ, zero, suc, ◌+◌, ◌-◌, ◌*◌, ◌/◌, ◌^◌, ◌<◌, ◌≤◌, ◌⊎◌, inl, inr, arith, ℤ, pos, ◌≤ℤ◌, ◌+ℤ◌, Bool, true, false, Option, Some, None, IfSome}
use Rattle.std.proofs.Math.Nat.{mul-le-mul, mul-le-mul_right}
use Rattle.std.proofs.lemmas.Bool.{lt-ltb, le-ltb, cases_lt}
use Rattle.std.proofs.lemmas.Int.{by_lt_z}
use Rattle.std.specs.Prelude.{int_le}
use borrow.Author.Differences.{up, down, le-true}
use Rattle.fixed_units.specs.Numbers.{IsWithin}
use Rattle.fixed_units.proofs.Signed.{signed}
use Rattle.glyph_assembly.specs.declared.sums.Sums.{Sums}
use Rattle.glyph_assembly.specs.Counts.{pieces, length_of, Grows, IsSmall, IsEnough, IsLeastCount, IsGreatestOverlap, greatest_overlap}
use Rattle.glyph_assembly.proofs.LeastCount.{reaches_from, what_reaches, int_le_from}
use Rattle.glyph_assembly.proofs.FirstFrom.{first_is}

-- ---- it is the one that is found

pub greatest_only : (s : Sums) (t : ℤ) (k w o : ℕ) → IsGreatestOverlap s t k w o → o ≡ greatest_overlap s t k (Some w)
unfolding greatest_overlap
greatest_only s t k w o h =
    rw (le-ltb w s.overlap (omega (arith, h.low, h.high)))
    (back ∙ ap (λ (n : ℕ). w - n) (sym (first_is (w - s.overlap) 0 (w - o) (λ n. int_le t (length_of s k (w - n))) (omega arith) (omega (arith, h.low)) is none)))
  where
    back : o ≡ w - (w - o)
    back = omega (arith, h.high)

    is : int_le t (length_of s k (w - (w - o))) ≡ true
    is = int_le_from t (length_of s k (w - (w - o))) (subst (λ n. t ≤ℤ length_of s k n) back h.reaches)

    none : (n : ℕ) → 0 ≤ n → n < w - o → int_le t (length_of s k (w - n)) ≡ false
    none n low below = by (int_le t (length_of s k (w - n))) refl
      where
        by : (v : Bool) → int_le t (length_of s k (w - n)) ≡ v → v ≡ false
        by true e =
            let l = le-true t (length_of s k (w - n)) e in
            let r : t ≤ℤ length_of s k (w - n) = omega (arith, signed) in
            let m = h.greatest (w - n) (omega arith) r in
            absurd (omega (arith, below, m))
        by false e = refl

-- where the connectors allow less than the least overlap, it is that one
pub no_wider : (s : Sums) (t : ℤ) (k w : ℕ) → w < s.overlap → s.overlap ≡ greatest_overlap s t k (Some w)
unfolding greatest_overlap
no_wider s t k w h = rw (lt-ltb w s.overlap h) refl

-- where there is no joint, it is that one too
pub no_joint : (s : Sums) (t : ℤ) (k : ℕ) → s.overlap ≡ greatest_overlap s t k None
unfolding greatest_overlap
no_joint s t k = refl

-- ---- by a quotient

-- the greatest overlap is that quotient, or the widest where that is less
pub greatest_by_quotient : (s : Sums) (t : ℤ) (k w j spare o : ℕ) → IsEnough s t k → j + 1 ≡ pieces s k → 0 < j → s.overlap ≤ w
    → up t + spare ≡ down t + (s.fixed_length + k * s.extender_length)
    → ((o ≡ spare / j) × (spare / j ≤ w)) ⊎ ((o ≡ w) × (w ≤ spare / j)) → IsGreatestOverlap s t k w o
greatest_by_quotient s t k w j spare o e js positive ow is or =
    let reach : (p : ℕ) → p * j ≤ spare → t ≤ℤ length_of s k p = λ p h. let m = ap (λ (x : ℕ). p * x) js in reaches_from s t k p e.some (omega arith) in
    let out : (p : ℕ) → t ≤ℤ length_of s k p → p * j ≤ spare = λ p r. let m = ap (λ (x : ℕ). p * x) js in let l = what_reaches s t k p e.some r in omega arith in
    let low = out s.overlap e.reaches in
    body reach out low or
  where
    under : (p : ℕ) → p * j ≤ spare → p ≤ spare / j
    under p h = by (cases_lt (spare / j) p)
      where
        by : (spare / j < p) ⊎ (p ≤ spare / j) → p ≤ spare / j
        by (inl l) = absurd (omega (arith, mul-le-mul_right j l))
        by (inr l) = l

    over : (p : ℕ) → p ≤ spare / j → p * j ≤ spare
    over p l = omega (arith, mul-le-mul_right j l)

    body : ((p : ℕ) → p * j ≤ spare → t ≤ℤ length_of s k p) → ((p : ℕ) → t ≤ℤ length_of s k p → p * j ≤ spare) → s.overlap * j ≤ spare
        → ((o ≡ spare / j) × (spare / j ≤ w)) ⊎ ((o ≡ w) × (w ≤ spare / j)) → IsGreatestOverlap s t k w o
    body reach out low (inl h) = record {
      low = let a = under s.overlap low in omega arith;
      high = omega arith;
      reaches = reach o (over o (omega arith));
      greatest = λ p l r. let a = under p (out p r) in omega arith;
    }
    body reach out low (inr h) = record {
      low = omega arith;
      high = omega arith;
      reaches = reach o (over o (omega arith));
      greatest = λ p l r. omega arith;
    }

-- ---- there is a greatest overlap

-- what a single piece overlaps makes no difference
single : (s : Sums) (t : ℤ) (k w : ℕ) → IsEnough s t k → pieces s k ≡ 1 → s.overlap ≤ w → IsGreatestOverlap s t k w w
single s t k w e one ow =
    let l = what_reaches s t k s.overlap e.some e.reaches in
    let m = ap (λ (x : ℕ). s.overlap * x) one in
    let n = ap (λ (x : ℕ). w * x) one in
    record {
      low = ow;
      high = omega arith;
      reaches = reaches_from s t k w e.some (omega arith);
      greatest = λ p l r. l;
    }

pub greatest_is : (s : Sums) (t : ℤ) (k w : ℕ) → IsEnough s t k → s.overlap ≤ w → (o : ℕ) × IsGreatestOverlap s t k w o
greatest_is s t k w e ow = by (cases_lt 1 (pieces s k))
  where
    by : (1 < pieces s k) ⊎ (pieces s k ≤ 1) → (o : ℕ) × IsGreatestOverlap s t k w o
    by (inr h) = (w, single s t k w e (omega (arith, e.some)) ow)
    by (inl h) =
        let spare = down t + (s.fixed_length + k * s.extender_length) - up t in
        let l = what_reaches s t k s.overlap e.some e.reaches in
        let j = pieces s k - 1 in
        let js : j + 1 ≡ pieces s k = omega arith in
        let m = ap (λ (x : ℕ). s.overlap * x) js in
        let is : up t + spare ≡ down t + (s.fixed_length + k * s.extender_length) = omega arith in
        quotient spare j js (omega arith) is (cases_lt w (spare / j))
      where
        quotient : (spare j : ℕ) → j + 1 ≡ pieces s k → 0 < j → up t + spare ≡ down t + (s.fixed_length + k * s.extender_length)
            → (w < spare / j) ⊎ (spare / j ≤ w) → (o : ℕ) × IsGreatestOverlap s t k w o
        quotient spare j js positive is (inl h) = (w, greatest_by_quotient s t k w j spare w e js positive ow is (inr (refl, omega arith)))
        quotient spare j js positive is (inr h) = (spare / j, greatest_by_quotient s t k w j spare (spare / j) e js positive ow is (inl (refl, h)))

pub greatest_overlap_is_greatest : (s : Sums) (t : ℤ) (k w : ℕ) → IsEnough s t k → s.overlap ≤ w
    → IsGreatestOverlap s t k w (greatest_overlap s t k (Some w))
greatest_overlap_is_greatest s t k w e ow =
    let o = greatest_is s t k w e ow in
    subst (IsGreatestOverlap s t k w) (greatest_only s t k w o.0 o.1) o.1

-- ---- what holds of the overlap, whether there is a joint or not

pub record IsOverlap (s : Sums) (t : ℤ) (k o : ℕ) : Type 0 where
  pub low : s.overlap ≤ o
  pub reaches : t ≤ℤ length_of s k o

pub overlap_is : (s : Sums) (t : ℤ) (k : ℕ) (widest : Option ℕ) → IsEnough s t k → IsOverlap s t k (greatest_overlap s t k widest)
overlap_is s t k None e = subst (IsOverlap s t k) (no_joint s t k) (record { low = omega arith; reaches = e.reaches })
overlap_is s t k (Some w) e = by (cases_lt w s.overlap)
  where
    by : (w < s.overlap) ⊎ (s.overlap ≤ w) → IsOverlap s t k (greatest_overlap s t k (Some w))
    by (inl h) = subst (IsOverlap s t k) (no_wider s t k w h) (record { low = omega arith; reaches = e.reaches })
    by (inr h) = let g = greatest_overlap_is_greatest s t k w e h in record { low = g.low; reaches = g.reaches }

pub overlap_within : (m : ℕ) (s : Sums) (t : ℤ) (k : ℕ) (widest : Option ℕ) → IsEnough s t k → s.overlap ≤ m → IfSome widest (λ w. w ≤ m)
    → greatest_overlap s t k widest ≤ m
overlap_within m s t k None e l is = subst (λ o. o ≤ m) (no_joint s t k) l
overlap_within m s t k (Some w) e l is = by (cases_lt w s.overlap)
  where
    by : (w < s.overlap) ⊎ (s.overlap ≤ w) → greatest_overlap s t k (Some w) ≤ m
    by (inl h) = subst (λ o. o ≤ m) (no_wider s t k w h) l
    by (inr h) = let g = greatest_overlap_is_greatest s t k w e h in omega (arith, g.high, is)

-- ---- how long it is: the target at the least, and less than a repeat of each extender more

one_more : (s : Sums) (k o : ℕ) → s.overlap ≤ o → 1 ≤ pieces s k
    → length_of s (suc k) o ≤ℤ (length_of s k s.overlap +ℤ pos s.extender_length)
unfolding length_of
one_more s k o l some =
    let more : pieces s k - 1 ≤ pieces s (suc k) - 1 = omega arith in
    let m = mul-le-mul l more in
    omega (arith, signed, m)

no_longer : (s : Sums) (k o : ℕ) → length_of s k o ≤ℤ pos (s.fixed_length + k * s.extender_length)
unfolding length_of
no_longer s k o = omega (arith, signed)

no_factor : (a b : ℕ) → 0 < b → a * b ≤ 0 → a ≡ 0
no_factor zero b h l = refl
no_factor (suc a) b h l = absurd (omega arith)

short : (s : Sums) (t : ℤ) (k o : ℕ) → IsSmall s → Grows s → IsWithin (2 ^ 40) t → IsLeastCount s t k → s.overlap ≤ o
    → length_of s k o ≤ℤ pos (2 ^ 41)
short s t zero o small grows within least l =
    let n = no_longer s 0 o in omega (arith, signed, n, small.fixed_length)
short s t (suc k) o small grows within least l = by (cases_lt 0 (pieces s k))
  where
    by : (0 < pieces s k) ⊎ (pieces s k ≤ 0) → length_of s (suc k) o ≤ℤ pos (2 ^ 41)
    by (inl some) =
        let m = one_more s k o l some in
        by_lt_z (length_of s k s.overlap) t
        (λ less. omega (arith, signed, m, less, small.extender_length))
        (λ reaches. absurd (omega (arith, least.least k (record { some = some; reaches = reaches }))))
    by (inr none) =
        let first : k ≡ 0 = no_factor k s.extender_count grows.some (omega arith) in
        let e = ap (λ (n : ℕ). n * s.extender_length) first in
        let n = no_longer s (suc k) o in
        omega (arith, signed, n, e, small.fixed_length, small.extender_length)

pub length_in : (s : Sums) (t : ℤ) (k o : ℕ) → IsSmall s → Grows s → IsWithin (2 ^ 40) t → IsLeastCount s t k → IsOverlap s t k o
    → IsWithin (2 ^ 41) (length_of s k o)
length_in s t k o small grows within least is = record {
  low = let r = is.reaches in omega (arith, signed, r);
  high = short s t k o small grows within least is.low;
}
