-- Scales of font sizes: powers, quotients of scales, and which sizes are in range.
use Rattle.std.proofs.Common.{◌≡◌, ◌∙◌, sym, ap, subst, ℕ, ◌+◌, ◌-◌, ◌*◌, ◌^◌, ◌<◌, ◌≤◌, arith, ℤ, pos, negsuc, ◌+ℤ◌, ◌-ℤ◌, ◌*ℤ◌, ◌≤ℤ◌, ◌<ℤ◌, mul-le-mul, lit≤, Bool, true, false, refl, Option, Some, None, IfSome, unwrap_or, FitsSigned}
use Rattle.std.proofs.Math.IntN.{*ℤ_comm}
use Rattle.std.proofs.Math.Nat.{one-le-pow, pow-le-pow_left, pow-le-pow_right, mul-le-mul_right}
use Rattle.std.proofs.lemmas.Int.{by_lt_z}
use Rattle.std.specs.Int.{w128}
use Rattle.std.specs.Prelude.{int_le}
use Rattle.std.proofs.lemmas.Nat.{pow-add}
use borrow.Author.Differences.{up, down}
use Rattle.fixed_units.specs.Numbers.{IsWithin, rounded}
use Rattle.fixed_units.proofs.Products.{*ℤ-*ℤ, -ℤ-*ℤ, +ℤ-*ℤ, product_below, product_at_most, below_from_product, at_most_from_product, product_not_negative}
use Rattle.fixed_units.proofs.Rounding.{rounded-parts, rounded_is_round, rounded_unique, rounded-*ℤ, rounded_at_most}
use Rattle.fixed_units.proofs.Signed.{signed}
use Rattle.css_lengths.specs.Lengths.{inch, millionths_of, ratio, resolved, size_of}
use Rattle.css_lengths.specs.declared.lengths.LengthText.{LengthText}
use Rattle.css_lengths.specs.declared.lengths.Unit.{Unit as LengthUnit}
use Rattle.css_lengths.specs.declared.lengths.Unit.TheVariants.{Em, Ex, Px, Pt, Pc, Inch, Cm, Mm, Quarter, Percent}
use Rattle.fixed_units.specs.declared.numbers.Ratio.{Ratio}
use Rattle.font_metrics.specs.Metrics.{MetricsValue, ex_of, scale_of}
use Rattle.style_scope.specs.Sizes.{IsPercent, IsScale, IsSize, in_range_of, scale_from, size_of as style_size}
use Rattle.style_scope.specs.Styles.{initial}

-- ---- powers of at most 100, of at most 13 levels
pub power_low : (number levels : ℕ) → 1 ≤ number → 1 ≤ number ^ levels
power_low number levels some = one-le-pow levels number some

pub power_high : (number levels : ℕ) → number ≤ 100 → levels ≤ 13 → number ^ levels ≤ 100 ^ 13
power_high number levels few short =
    let base : number ^ levels ≤ 100 ^ levels = pow-le-pow_left few levels in
    let exponent : 100 ^ levels ≤ 100 ^ 13 = pow-le-pow_right (lit≤ tt) short in
    omega (arith, base, exponent)

-- ---- the levels that two scales have in common cancel
same_factors : (p q a b c d : ℕ) → (p * a) * ((100 * (b * c)) * (q * d)) ≡ ((p * (d * a)) * (100 * b)) * (q * c)
same_factors p q a b c d = grind arith

further_factors : (p q a b c d : ℕ) → (p * c) * ((100 * b) * (q * (d * a))) ≡ ((p * d) * (100 * (b * c))) * (q * a)
further_factors p q a b c d = grind arith

pub below_given : (p q x y : ℕ) → y ≤ x →
    (p * 71 ^ (x - y)) * ((100 * 100 ^ x) * (q * 71 ^ y)) ≡ ((p * 71 ^ x) * (100 * 100 ^ y)) * (q * 100 ^ (x - y))
below_given p q x y h =
    let j = x - y in
    let is : x ≡ y + j = omega arith in
    let hundred : 100 ^ x ≡ 100 ^ y * 100 ^ j = ap (λ n. 100 ^ n) is ∙ pow-add 100 y j in
    let seventy : 71 ^ x ≡ 71 ^ y * 71 ^ j = ap (λ n. 71 ^ n) is ∙ pow-add 71 y j in
    ap (λ n. (p * 71 ^ j) * ((100 * n) * (q * 71 ^ y))) hundred
    ∙ same_factors p q (71 ^ j) (100 ^ y) (100 ^ j) (71 ^ y)
    ∙ ap (λ n. ((p * n) * (100 * 100 ^ y)) * (q * 100 ^ j)) (sym seventy)

pub above_given : (p q x y : ℕ) → x ≤ y →
    (p * 100 ^ (y - x)) * ((100 * 100 ^ x) * (q * 71 ^ y)) ≡ ((p * 71 ^ x) * (100 * 100 ^ y)) * (q * 71 ^ (y - x))
above_given p q x y h =
    let j = y - x in
    let is : y ≡ x + j = omega arith in
    let hundred : 100 ^ y ≡ 100 ^ x * 100 ^ j = ap (λ n. 100 ^ n) is ∙ pow-add 100 x j in
    let seventy : 71 ^ y ≡ 71 ^ x * 71 ^ j = ap (λ n. 71 ^ n) is ∙ pow-add 71 x j in
    ap (λ n. (p * 100 ^ j) * ((100 * 100 ^ x) * (q * n))) seventy
    ∙ further_factors p q (71 ^ j) (100 ^ x) (100 ^ j) (71 ^ x)
    ∙ ap (λ n. ((p * 71 ^ x) * (100 * n)) * (q * 71 ^ j)) (sym hundred)

-- ---- which sizes are in range: twice a size is compared with an odd number
pub too_large : (a : ℤ) (k : ℕ) → 0 < k → 2097153 * k + 2 * down a ≤ 2 * up a → pos 1048576 <ℤ rounded a (pos k)
too_large a k h large =
    let n = rounded a (pos k) in
    let p = rounded-parts a k h in
    by_lt_z (pos 1048576) n (λ l. l) (λ le.
    let e : up n ≤ down n + 1048576 = omega (arith, signed) in
    let m = mul-le-mul_right (2 * k) e in
    absurd (omega (arith, p, m, large)))

pub in_range : (a : ℤ) (k : ℕ) → 0 < k → 2 * up a < 2097153 * k + 2 * down a → rounded a (pos k) ≤ℤ pos 1048576
in_range a k h small =
    let n = rounded a (pos k) in
    let p = rounded-parts a k h in
    by_lt_z (pos 1048576) n (λ l.
    let e : down n + 1048577 ≤ up n = omega (arith, signed) in
    let m = mul-le-mul_right (2 * k) e in
    absurd (omega (arith, p, m, small)))
    (λ le. le)

-- ---- products of positive numbers
pub product_positive : (a : ℤ) (n : ℕ) → pos 1 ≤ℤ a → 1 ≤ n → pos 1 ≤ℤ (a *ℤ pos n)
product_positive (pos a) n p q =
    let some : 1 ≤ a = omega (arith, signed) in
    let one : 1 * 1 ≤ a * n = mul-le-mul some q in omega (arith, signed, one)
product_positive (negsuc a) n p q = absurd (omega (arith, signed))

-- ---- the quotient of two scales
given_low : (q x y : ℕ) → 1 ≤ q → pos 1 ≤ℤ (pos (100 * 100 ^ x) *ℤ (pos q *ℤ pos (71 ^ y)))
given_low q x y some =
    let hundred : 1 ≤ 100 ^ x = power_low 100 x (lit≤ tt) in
    let seventy : 1 ≤ 71 ^ y = power_low 71 y (lit≤ tt) in
    let first : 1 ≤ 100 * 100 ^ x = omega (arith, hundred) in
    let second : 1 * 1 ≤ q * 71 ^ y = mul-le-mul some seventy in
    let second' : 1 ≤ q * 71 ^ y = second in
    let both : 1 * 1 ≤ (100 * 100 ^ x) * (q * 71 ^ y) = mul-le-mul first second' in
    omega (arith, signed, both)

pub below_is_scale : (num den : ℤ) (below given : ℕ) (n d : ℤ) → IsPercent num → IsPercent den → given ≤ below
    → n ≡ num *ℤ pos (71 ^ (below - given)) → d ≡ den *ℤ pos (100 ^ (below - given))
    → pos 1 ≤ℤ n → IsWithin (2 ^ 95) n → pos 1 ≤ℤ d → IsWithin (2 ^ 95) d
    → IsScale (scale_from num below) (scale_from den given) (record { num = n; den = d })
below_is_scale (pos p) (pos q) below given n d u v h e f n_low n_in d_low d_in = record {
  same = rw (e, f) (ap pos (below_given p q below given h));
  given_low = given_low q below given (omega (arith, signed, v.low));
  num_low = n_low;
  num_in = n_in;
  den_low = d_low;
  den_in = d_in;
}
below_is_scale (pos p) (negsuc q) below given n d u v h e f n_low n_in d_low d_in = absurd (omega (arith, signed, v.low))
below_is_scale (negsuc p) den below given n d u v h e f n_low n_in d_low d_in = absurd (omega (arith, signed, u.low))

pub above_is_scale : (num den : ℤ) (below given : ℕ) (n d : ℤ) → IsPercent num → IsPercent den → below ≤ given
    → n ≡ num *ℤ pos (100 ^ (given - below)) → d ≡ den *ℤ pos (71 ^ (given - below))
    → pos 1 ≤ℤ n → IsWithin (2 ^ 95) n → pos 1 ≤ℤ d → IsWithin (2 ^ 95) d
    → IsScale (scale_from num below) (scale_from den given) (record { num = n; den = d })
above_is_scale (pos p) (pos q) below given n d u v h e f n_low n_in d_low d_in = record {
  same = rw (e, f) (ap pos (above_given p q below given h));
  given_low = given_low q below given (omega (arith, signed, v.low));
  num_low = n_low;
  num_in = n_in;
  den_low = d_low;
  den_in = d_in;
}
above_is_scale (pos p) (negsuc q) below given n d u v h e f n_low n_in d_low d_in = absurd (omega (arith, signed, v.low))
above_is_scale (negsuc p) den below given n d u v h e f n_low n_in d_low d_in = absurd (omega (arith, signed, u.low))

-- ---- one rounding, whichever terms the ratio has
pub same_ratio : (a b c d : ℤ) → pos 0 <ℤ b → pos 0 <ℤ d → a *ℤ d ≡ c *ℤ b → rounded a b ≡ rounded c d
same_ratio a b c d b_positive d_positive e =
    let n = rounded a b in
    let is = rounded_is_round a b b_positive in
    let tops : (pos 2 *ℤ a) *ℤ d ≡ (pos 2 *ℤ c) *ℤ b = *ℤ-*ℤ (pos 2) a d ∙ ap (λ z. pos 2 *ℤ z) e ∙ sym (*ℤ-*ℤ (pos 2) c b) in
    let ends : b *ℤ d ≡ d *ℤ b = *ℤ_comm b d in
    let least : (pos 2 *ℤ a -ℤ b) *ℤ d ≡ (pos 2 *ℤ c -ℤ d) *ℤ b =
    -ℤ-*ℤ (pos 2 *ℤ a) b d ∙ (λ i. tops i -ℤ ends i) ∙ sym (-ℤ-*ℤ (pos 2 *ℤ c) d b) in
    let most : (pos 2 *ℤ a +ℤ b) *ℤ d ≡ (pos 2 *ℤ c +ℤ d) *ℤ b =
    +ℤ-*ℤ (pos 2 *ℤ a) b d ∙ (λ i. tops i +ℤ ends i) ∙ sym (+ℤ-*ℤ (pos 2 *ℤ c) d b) in
    let moved : (b *ℤ n) *ℤ d ≡ (d *ℤ n) *ℤ b = *ℤ-*ℤ b n d ∙ ap (λ z. b *ℤ z) (*ℤ_comm n d) ∙ *ℤ_comm b (d *ℤ n) in
    let middle : (pos 2 *ℤ b *ℤ n) *ℤ d ≡ (pos 2 *ℤ d *ℤ n) *ℤ b =
    ap (λ z. z *ℤ d) (*ℤ-*ℤ (pos 2) b n) ∙ *ℤ-*ℤ (pos 2) (b *ℤ n) d ∙ ap (λ z. pos 2 *ℤ z) moved
    ∙ sym (*ℤ-*ℤ (pos 2) (d *ℤ n) b) ∙ ap (λ z. z *ℤ b) (sym (*ℤ-*ℤ (pos 2) d n)) in
    rounded_unique c d n d_positive record {
      low = below_from_product _ _ b b_positive (subst (λ z. z <ℤ ((pos 2 *ℤ d *ℤ n) *ℤ b)) least (subst (λ z. ((pos 2 *ℤ a -ℤ b) *ℤ d) <ℤ z) middle (product_below _ _ d d_positive is.low)));
      high = at_most_from_product _ _ b b_positive (subst (λ z. ((pos 2 *ℤ d *ℤ n) *ℤ b) ≤ℤ z) most (subst (λ z. z ≤ℤ ((pos 2 *ℤ a +ℤ b) *ℤ d)) middle (product_at_most _ _ d (omega (arith, signed)) is.high)));
    }

-- ---- the test of a size
le_true : (a b : ℤ) → a ≤ℤ b → int_le a b ≡ true
le_true a b h = by (int_le a b) refl
  where
    by : (t : Bool) → int_le a b ≡ t → t ≡ true
    by true e = refl
    by false e = absurd (omega (arith, signed, e))

le_false_of : (a b : ℤ) → b <ℤ a → int_le a b ≡ false
le_false_of a b h = by (int_le a b) refl
  where
    by : (t : Bool) → int_le a b ≡ t → t ≡ false
    by true e = absurd (omega (arith, signed, e))
    by false e = refl

pub beyond : (a b : ℤ) → pos 1 ≤ℤ b → ((pos 2097153 *ℤ b) -ℤ a) ≤ℤ a → in_range_of (rounded a b) ≡ None
unfolding in_range_of
beyond a (pos k) some large =
    let above = too_large a k (omega (arith, signed)) (omega (arith, signed)) in
    rw (le_false_of (rounded a (pos k)) (pos 1048576) above) refl
beyond a (negsuc k) some large = absurd (omega (arith, signed))

pub size_high : (a b : ℤ) → pos 1 ≤ℤ b → a <ℤ ((pos 2097153 *ℤ b) -ℤ a) → rounded a b ≤ℤ pos 1048576
size_high a (pos k) some small = in_range a k (omega (arith, signed)) (omega (arith, signed))
size_high a (negsuc k) some small = absurd (omega (arith, signed))

pub size_low : (a b : ℤ) → pos 1 ≤ℤ b → pos 0 ≤ℤ a → pos 0 ≤ℤ rounded a b
size_low a b some low =
    let h : pos 0 <ℤ b = omega (arith, signed) in
    subst (λ z. z ≤ℤ rounded a b) (rounded-*ℤ (pos 0) b h) (rounded_at_most (pos 0 *ℤ b) a b h (omega (arith, signed)))

pub in_reach : (a b : ℤ) → rounded a b ≤ℤ pos 1048576 → in_range_of (rounded a b) ≡ Some (rounded a b)
unfolding in_range_of
in_reach a b high = rw (le_true (rounded a b) (pos 1048576) high) refl

-- a product past 128 bits
pub past_range : (a b : ℤ) → pos 1 ≤ℤ b → IsWithin (2 ^ 95) b → pos 0 ≤ℤ a → (FitsSigned w128 a → ⊥) → in_range_of (rounded a b) ≡ None
past_range a b some few low unfit =
    beyond a b some (by_lt_z a (pos (2 ^ 127)) (λ l. absurd (unfit (omega (arith, signed)))) (λ ge. omega (arith, signed, few)))

pub product_not_below : (a b : ℤ) → pos 0 ≤ℤ a → pos 1 ≤ℤ b → pos 0 ≤ℤ (a *ℤ b)
product_not_below a b p q = product_not_negative a b p (omega (arith, signed))

-- ---- sizes that are given
-- an ex is no less than nothing
pub ex_low : (m : MetricsValue) (size : ℤ) → 1 ≤ m.upem → pos 0 ≤ℤ size → pos 0 ≤ℤ ex_of m size
unfolding scale_of
ex_low m size some low = size_low (pos m.x_height *ℤ size) (pos m.upem) (omega (arith, signed)) (product_not_negative (pos m.x_height) size (omega (arith, signed)) low)

-- so many millionths of a size, where neither is negative
millionths_low : (n : ℤ) (size : Ratio) → pos 0 ≤ℤ n → pos 0 ≤ℤ size.num → pos 1 ≤ℤ size.den → pos 0 ≤ℤ millionths_of n size
millionths_low n size n_low num_low den_low =
    size_low (n *ℤ size.num) (pos 1000000 *ℤ size.den) (omega (arith, signed)) (product_not_negative n size.num n_low num_low)

pub resolved_low : (length : LengthText) (em ex percent_of : ℤ) → pos 0 ≤ℤ length.millionths → pos 0 ≤ℤ em → pos 0 ≤ℤ ex → pos 0 ≤ℤ percent_of
    → pos 0 ≤ℤ resolved length em ex percent_of
unfolding resolved size_of
resolved_low length em ex percent_of n p q r = by length.unit
  where
    by : (unit : LengthUnit) → pos 0 ≤ℤ millionths_of length.millionths (size_of unit em ex percent_of)
    by Em = millionths_low length.millionths (ratio em (pos 1)) n p (omega (arith, signed))
    by Ex = millionths_low length.millionths (ratio ex (pos 1)) n q (omega (arith, signed))
    by Px = millionths_low length.millionths (ratio (pos 1024) (pos 1)) n (omega (arith, signed)) (omega (arith, signed))
    by Pt = millionths_low length.millionths (ratio inch (pos 72)) n (omega (arith, signed)) (omega (arith, signed))
    by Pc = millionths_low length.millionths (ratio inch (pos 6)) n (omega (arith, signed)) (omega (arith, signed))
    by Inch = millionths_low length.millionths (ratio inch (pos 1)) n (omega (arith, signed)) (omega (arith, signed))
    by Cm = millionths_low length.millionths (ratio (pos 100 *ℤ inch) (pos 254)) n (omega (arith, signed)) (omega (arith, signed))
    by Mm = millionths_low length.millionths (ratio (pos 10 *ℤ inch) (pos 254)) n (omega (arith, signed)) (omega (arith, signed))
    by Quarter = millionths_low length.millionths (ratio (pos 100 *ℤ inch) (pos 40 *ℤ pos 254)) n (omega (arith, signed)) (omega (arith, signed))
    by Percent = millionths_low length.millionths (ratio percent_of (pos 100)) n r (omega (arith, signed))

in_range_is : (size : ℤ) → size ≤ℤ pos 1048576 → in_range_of size ≡ Some size
unfolding in_range_of
in_range_is size high = rw (le_true size (pos 1048576) high) refl

-- a size in range is answered
pub size_got : (o : Option ℤ) (size r : ℤ) → o ≡ in_range_of size → size ≤ℤ pos 1048576 → r ≡ unwrap_or o (pos 0) → r ≡ size
unfolding in_range_of
size_got o size r e high is = is ∙ ap (λ p. unwrap_or p (pos 0)) (e ∙ in_range_is size high)

pub size_is : (o : Option ℤ) (size : ℤ) → o ≡ in_range_of size → size ≤ℤ pos 1048576 → IfSome o IsSize → IsSize size
size_is o size e high is = subst (λ p. IfSome p IsSize) (e ∙ in_range_is size high) is

-- the root's size before its attributes
pub initial_size : (m : MetricsValue) → style_size m initial ≡ pos 16384
unfolding style_size rounded
initial_size m = refl
