-- How far numbers reach: each lemma is the bound of an expression, from the bounds of its parts.
--
-- They nest as the expressions do: `sum_in p (half_in (difference_in q r))` is the bound of
-- `a +ℤ halved (b -ℤ c)`. The bounds are numerals and compute, so `fits_i64 .. (lit< tt)` ends it.
use Rattle.std.proofs.Common.{ℕ, suc, ◌+◌, ◌*◌, ◌^◌, ◌<◌, ◌≤◌, max, Bool, true, false, cond, arith, ℤ, pos, negsuc, neg_ℤ, ◌+ℤ◌, ◌-ℤ◌, ◌*ℤ◌, ◌≤ℤ◌, ◌<ℤ◌, w64, FitsSigned, mul-le-mul}
use Rattle.std.proofs.Math.Nat.{mul-le-mul_left, mul-le-mul_right}
use Rattle.std.proofs.lemmas.Int.{by_lt_z}
use Rattle.std.specs.Int.{int_max, int_min, w128}
use borrow.Author.Differences.{up, down}
use Rattle.fixed_units.specs.Numbers.{IsWithin, rounded, halved}
use Rattle.fixed_units.proofs.Signed.{signed}
use Rattle.fixed_units.proofs.Rounding.{halved-parts, rounded-parts}

pub natural_in : (n : ℕ) → IsWithin n (pos n)
natural_in n = record { low = omega (arith, signed); high = omega (arith, signed) }

pub widened : {m : ℕ} (n : ℕ) {a : ℤ} → IsWithin m a → m ≤ n → IsWithin n a
widened n p l = record { low = omega (arith, signed); high = omega (arith, signed) }

pub negation_in : {m : ℕ} {a : ℤ} → IsWithin m a → IsWithin m (neg_ℤ a)
negation_in p = record { low = omega (arith, signed); high = omega (arith, signed) }

pub sum_in : {m n : ℕ} {a b : ℤ} → IsWithin m a → IsWithin n b → IsWithin (m + n) (a +ℤ b)
sum_in p q = record { low = omega (arith, signed); high = omega (arith, signed) }

pub difference_in : {m n : ℕ} {a b : ℤ} → IsWithin m a → IsWithin n b → IsWithin (m + n) (a -ℤ b)
difference_in p q = record { low = omega (arith, signed); high = omega (arith, signed) }

pub max_in : {m n : ℕ} {a b : ℤ} → IsWithin m a → IsWithin n b → IsWithin (max m n) (int_max a b)
max_in p q = record { low = omega (arith, signed); high = omega (arith, signed) }

pub min_in : {m n : ℕ} {a b : ℤ} → IsWithin m a → IsWithin n b → IsWithin (max m n) (int_min a b)
min_in p q = record { low = omega (arith, signed); high = omega (arith, signed) }

-- of `if v then a else b`
pub choice_in : {m n : ℕ} {a b : ℤ} (v : Bool) → IsWithin m a → IsWithin n b → IsWithin (max m n) (cond v a b)
choice_in true p q = record { low = omega (arith, signed); high = omega (arith, signed) }
choice_in false p q = record { low = omega (arith, signed); high = omega (arith, signed) }

product_at : (m n : ℕ) (a b : ℤ) → IsWithin m a → IsWithin n b → IsWithin (m * n) (a *ℤ b)
product_at m n (pos a) (pos b) v w =
    let p : a * b ≤ m * n = mul-le-mul (omega (arith, signed)) (omega (arith, signed)) in
    record { low = omega (arith, signed); high = omega (arith, signed) }
product_at m n (pos a) (negsuc b) v w =
    let p : a * suc b ≤ m * n = mul-le-mul (omega (arith, signed)) (omega (arith, signed)) in
    record { low = omega (arith, signed); high = omega (arith, signed) }
product_at m n (negsuc a) (pos b) v w =
    let p : suc a * b ≤ m * n = mul-le-mul (omega (arith, signed)) (omega (arith, signed)) in
    record { low = omega (arith, signed); high = omega (arith, signed) }
product_at m n (negsuc a) (negsuc b) v w =
    let p : suc a * suc b ≤ m * n = mul-le-mul (omega (arith, signed)) (omega (arith, signed)) in
    record { low = omega (arith, signed); high = omega (arith, signed) }

pub product_in : {m n : ℕ} {a b : ℤ} → IsWithin m a → IsWithin n b → IsWithin (m * n) (a *ℤ b)
product_in p q = product_at _ _ _ _ p q

pub half_in : {m : ℕ} {a : ℤ} → IsWithin m a → IsWithin m (halved a)
half_in p = record { low = omega (arith, signed, halved-parts); high = omega (arith, signed, halved-parts) }

-- a number within m * k, divided by k or more, is rounded to one within m
rounded_at : (m k d : ℕ) (a : ℤ) → 0 < k → k ≤ d → IsWithin (m * k) a → IsWithin m (rounded a (pos d))
rounded_at m k d a h le w =
    let n = rounded a (pos d) in
    let p = rounded-parts a d (omega arith) in
    let t = mul-le-mul_left m le in
    let below : neg_ℤ (pos m) ≤ℤ n = by_lt_z n (neg_ℤ (pos m))
    (λ l. let e : up n + m + 1 ≤ down n = omega (arith, signed) in absurd (omega (arith, signed, p, t, mul-le-mul_right d e))) (λ g. g) in
    let above : n ≤ℤ pos m = by_lt_z (pos m) n
    (λ l. let e : down n + m + 1 ≤ up n = omega (arith, signed) in absurd (omega (arith, signed, p, t, mul-le-mul_right d e))) (λ g. g) in
    record { low = below; high = above }

pub rounded_in : {m : ℕ} {a : ℤ} (b : ℤ) → pos 0 <ℤ b → IsWithin m a → IsWithin m (rounded a b)
rounded_in {m} {a} (pos d) h w = rounded_at m 1 d a (omega arith) (omega (arith, signed)) record { low = omega (arith, signed); high = omega (arith, signed) }
rounded_in (negsuc d) h w = absurd (omega (arith, signed))

pub quotient_in : {m k : ℕ} {a : ℤ} (b : ℤ) → 0 < k → pos k ≤ℤ b → IsWithin (m * k) a → IsWithin m (rounded a b)
quotient_in {m} {k} {a} (pos d) h le w = rounded_at m k d a h (omega (arith, signed)) w
quotient_in (negsuc d) h le w = absurd (omega (arith, signed))

-- ---- what lies within a type's range fits it
pub fits_i64 : {m : ℕ} {a : ℤ} → IsWithin m a → m < 2 ^ 63 → FitsSigned w64 a
fits_i64 p l = omega (arith, signed)

pub fits_i128 : {m : ℕ} {a : ℤ} → IsWithin m a → m < 2 ^ 127 → FitsSigned w128 a
fits_i128 p l = omega (arith, signed)
