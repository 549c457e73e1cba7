-- The least count of repeats that reaches a target: that there is one, and where it lies.
use Rattle.std.proofs.Common.{◌≡◌, refl, ap, sym, subst, ℕ, zero, suc, ◌+◌, ◌-◌, ◌*◌, ◌/◌, ◌^◌, ◌<◌, ◌≤◌, max, ◌⊎◌, inl, inr, arith, ℤ, pos, negsuc, ◌≤ℤ◌, Bool, true, false, unsigned_abs}
use Rattle.std.proofs.Math.Nat.{mul-le-mul, mul-le-mul_left, mul-le-mul_right}
use Rattle.std.proofs.lemmas.Bool.{leb-true, le-leb, cases_lt, and_parts, and_from}
use Rattle.std.specs.Prelude.{nat_le, int_le}
use borrow.Author.Differences.{up, down, le-true, le-false}
use Rattle.fixed_units.specs.Numbers.{IsWithin}
use Rattle.fixed_units.proofs.Signed.{signed}
use Rattle.glyph_assembly.specs.declared.sums.Sums.{Sums}
use Rattle.glyph_assembly.specs.Counts.{pieces, length_of, Grows, IsSmall, IsEnough, IsLeastCount, is_enough, enough_repeats, least_count}
use Rattle.glyph_assembly.proofs.FirstFrom.{first_is}

-- ---- the inequality with nothing taken away

pub reaches_from : (s : Sums) (t : ℤ) (k o : ℕ) → 1 ≤ pieces s k
    → up t + o * s.fixed_count + o * (k * s.extender_count) ≤ down t + s.fixed_length + k * s.extender_length + o
    → t ≤ℤ length_of s k o
unfolding length_of
reaches_from s t k o some l =
    let e : pieces s k - 1 + 1 ≡ pieces s k = omega arith in
    let m = ap (λ (x : ℕ). o * x) e in
    omega (arith, signed)

pub what_reaches : (s : Sums) (t : ℤ) (k o : ℕ) → 1 ≤ pieces s k → t ≤ℤ length_of s k o
    → up t + o * s.fixed_count + o * (k * s.extender_count) ≤ down t + s.fixed_length + k * s.extender_length + o
unfolding length_of
what_reaches s t k o some r =
    let e : pieces s k - 1 + 1 ≡ pieces s k = omega arith in
    let m = ap (λ (x : ℕ). o * x) e in
    omega (arith, signed)

-- ---- the test

pub int_le_from : (a b : ℤ) → a ≤ℤ b → int_le a b ≡ true
int_le_from a b h = by (int_le a b) refl
  where
    by : (v : Bool) → int_le a b ≡ v → v ≡ true
    by true e = refl
    by false e = absurd (omega (arith, signed, le-false a b e))

is_enough_from : (s : Sums) (t : ℤ) (k : ℕ) → IsEnough s t k → is_enough s t k ≡ true
is_enough_from s t k h =
    and_from _ _ (le-leb 1 (pieces s k) h.some) (int_le_from t (length_of s k s.overlap) h.reaches)

enough_from : (s : Sums) (t : ℤ) (k : ℕ) → is_enough s t k ≡ true → IsEnough s t k
enough_from s t k e =
    let p = and_parts (nat_le 1 (pieces s k)) (int_le t (length_of s k s.overlap)) e in
    let l = le-true t (length_of s k s.overlap) p.1 in
    record { some = leb-true 1 (pieces s k) p.0; reaches = omega (arith, signed) }

-- ---- a count that always suffices

some_pieces : (s : Sums) (k : ℕ) → 0 < s.extender_count → 1 ≤ k → 1 ≤ pieces s k
some_pieces s zero some l = absurd (omega arith)
some_pieces s (suc k) some l = omega arith

reach_of_target : (t : ℤ) → up t ≤ down t + unsigned_abs t
reach_of_target (pos n) = omega arith
reach_of_target (negsuc n) = omega arith

-- each repeat gains so much
gained : (s : Sums) (k : ℕ) → Grows s
    → k * s.extender_length ≡ s.overlap * (k * s.extender_count) + k * (s.extender_length - s.overlap * s.extender_count)
gained s k h =
    let e : s.extender_length ≡ s.overlap * s.extender_count + (s.extender_length - s.overlap * s.extender_count) = omega (arith, h.longer) in
    let p = ap (λ (x : ℕ). k * x) e in
    omega arith

always_enough : (s : Sums) (t : ℤ) → Grows s → IsEnough s t (enough_repeats s t)
always_enough s t h =
    let k = enough_repeats s t in
    let some = some_pieces s k h.some (omega arith) in
    let g = gained s k h in
    let gain : 1 ≤ s.extender_length - s.overlap * s.extender_count = omega (arith, h.longer) in
    let at_least : k * 1 ≤ k * (s.extender_length - s.overlap * s.extender_count) = omega (arith, mul-le-mul_left k gain) in
    let r = reach_of_target t in
    record { some = some; reaches = reaches_from s t k s.overlap some (omega (arith, g, at_least, r)) }

-- so the least count is no larger, and the search for the first one finds it
pub least_within : (s : Sums) (t : ℤ) (r : ℕ) → Grows s → IsLeastCount s t r → r ≤ enough_repeats s t
least_within s t r h least = least.least (enough_repeats s t) (always_enough s t h)

pub least_only : (s : Sums) (t : ℤ) (r : ℕ) → Grows s → IsLeastCount s t r → r ≡ least_count s t
unfolding least_count
least_only s t r h least =
    sym (first_is (enough_repeats s t) 0 r (is_enough s t) (omega arith) (omega (arith, least_within s t r h least)) (is_enough_from s t r least.enough) none)
  where
    none : (k : ℕ) → 0 ≤ k → k < r → is_enough s t k ≡ false
    none k low below = by (is_enough s t k) refl
      where
        by : (v : Bool) → is_enough s t k ≡ v → v ≡ false
        by true e = absurd (omega (arith, below, least.least k (enough_from s t k e)))
        by false e = refl

pub small_count : (s : Sums) (t : ℤ) → IsSmall s → IsWithin (2 ^ 40) t → enough_repeats s t ≤ 2 ^ 42
small_count s t small within =
    let p : s.overlap * s.fixed_count ≤ 2 ^ 32 * 16 = mul-le-mul small.overlap small.fixed_count in
    omega (arith, p, abs_within t within)
  where
    abs_within : (t : ℤ) → IsWithin (2 ^ 40) t → unsigned_abs t ≤ 2 ^ 40
    abs_within (pos n) w = omega (arith, signed)
    abs_within (negsuc n) w = omega (arith, signed)

-- ---- by a quotient

-- the least count that makes a piece at all
abbrev pub IsFirst : Sums → ℕ → Type 0
IsFirst s f = ((s.fixed_count ≡ 0) × (f ≡ 1)) ⊎ ((0 < s.fixed_count) × (f ≡ 0))

some_from : (s : Sums) (f r : ℕ) → 0 < s.extender_count → IsFirst s f → f ≤ r → 1 ≤ pieces s r
some_from s f r some (inl h) l = some_pieces s r some (omega arith)
some_from s f r some (inr h) l = omega arith

first_least : (s : Sums) (f k : ℕ) → IsFirst s f → 1 ≤ pieces s k → f ≤ k
first_least s f zero (inl h) l = absurd (omega arith)
first_least s f (suc k) (inl h) l = omega arith
first_least s f k (inr h) l = omega arith

-- a quotient that rounds up is at most what covers the whole
covers : (q k g m : ℕ) → q * g < m + g → m ≤ k * g → q ≤ k
covers q k g m high kg = by (cases_lt k q)
  where
    by : (k < q) ⊎ (q ≤ k) → q ≤ k
    by (inl h) = absurd (omega (arith, mul-le-mul_right g h))
    by (inr h) = h

-- a count is enough where it makes a piece and gains what is missing
enough : (s : Sums) (t : ℤ) (f r : ℕ) → Grows s → IsFirst s f → f ≤ r
    → up t + s.overlap * s.fixed_count ≤ down t + s.fixed_length + s.overlap + r * (s.extender_length - s.overlap * s.extender_count)
    → IsEnough s t r
enough s t f r h first l m =
    let some = some_from s f r h.some first l in
    let g = gained s r h in
    record { some = some; reaches = reaches_from s t r s.overlap some (omega (arith, g, m)) }

pub least_first : (s : Sums) (t : ℤ) (f : ℕ) → Grows s → IsFirst s f
    → up t + s.overlap * s.fixed_count ≤ down t + s.fixed_length + s.overlap → IsLeastCount s t f
least_first s t f h first m = record {
  enough = enough s t f f h first (omega arith) (omega arith);
  least = λ k e. first_least s f k first e.some;
}

pub least_more : (s : Sums) (t : ℤ) (f m r : ℕ) → Grows s → IsFirst s f
    → up t + s.overlap * s.fixed_count ≡ down t + s.fixed_length + s.overlap + m
    → r ≡ max ((m + (s.extender_length - s.overlap * s.extender_count - 1)) / (s.extender_length - s.overlap * s.extender_count)) f
    → IsLeastCount s t r
least_more s t f m r h first is quotient =
    let g = s.extender_length - s.overlap * s.extender_count in
    let gain : 0 < g = omega (arith, h.longer) in
    body ((m + (g - 1)) / g) (omega arith) (omega arith) quotient
  where
    body : (q : ℕ) → m ≤ q * (s.extender_length - s.overlap * s.extender_count)
        → q * (s.extender_length - s.overlap * s.extender_count) < m + (s.extender_length - s.overlap * s.extender_count)
        → r ≡ max q f → IsLeastCount s t r
    body q low high e =
        let qr : q ≤ r = omega arith in
        let n = mul-le-mul_right (s.extender_length - s.overlap * s.extender_count) qr in
        record {
          enough = enough s t f r h first (omega arith) (omega arith);
          least = λ k some.
              let l = what_reaches s t k s.overlap some.some some.reaches in
              let p = gained s k h in
              let kg : m ≤ k * (s.extender_length - s.overlap * s.extender_count) = omega arith in
              let fk = first_least s f k first some.some in
              let qk : q ≤ k = covers q k (s.extender_length - s.overlap * s.extender_count) m high kg in
              omega arith;
        }

-- ---- there is a least count

first_of : (s : Sums) → (f : ℕ) × IsFirst s f
first_of s = by (cases_lt 0 s.fixed_count)
  where
    by : (0 < s.fixed_count) ⊎ (s.fixed_count ≤ 0) → (f : ℕ) × IsFirst s f
    by (inl h) = (0, inr (h, refl))
    by (inr h) = (1, inl (omega arith, refl))

least_is : (s : Sums) (t : ℤ) → Grows s → (r : ℕ) × IsLeastCount s t r
least_is s t h = by (cases_lt (down t + s.fixed_length + s.overlap) (up t + s.overlap * s.fixed_count))
  where
    by : (down t + s.fixed_length + s.overlap < up t + s.overlap * s.fixed_count) ⊎ (up t + s.overlap * s.fixed_count ≤ down t + s.fixed_length + s.overlap)
        → (r : ℕ) × IsLeastCount s t r
    by (inr l) = ((first_of s).0, least_first s t (first_of s).0 h (first_of s).1 l)
    by (inl l) =
        let m = up t + s.overlap * s.fixed_count - (down t + s.fixed_length + s.overlap) in
        (_, least_more s t (first_of s).0 m _ h (first_of s).1 (omega arith) refl)

pub least_count_is_least : (s : Sums) (t : ℤ) → Grows s → IsLeastCount s t (least_count s t)
least_count_is_least s t h =
    let r = least_is s t h in
    subst (IsLeastCount s t) (least_only s t r.0 h r.1) r.1
