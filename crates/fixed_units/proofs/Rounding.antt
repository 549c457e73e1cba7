-- Quotients rounded down, halves, and quotients rounded to the nearest.
use Rattle.std.proofs.Common.{◌≡◌, ◌↔◌, ℕ, ◌+◌, ◌*◌, ◌<◌, ◌≤◌, sym, ap, subst, arith, ◌∙◌, ℤ, pos, negsuc, ◌+ℤ◌, ◌-ℤ◌, ◌*ℤ◌, ◌≤ℤ◌, ◌<ℤ◌, FitsSigned, to_z, of_z, ◌≢◌}
use Rattle.std.proofs.Math.Nat.{mul-le-mul_right, pos_of_ne-zero}
use Rattle.std.proofs.lemmas.Int.{by_lt_z, to_z-of_z}
use Rattle.std.specs.Int.{IsNonZero, Width, int_div_euclid, int_rem_euclid}
use borrow.Author.Differences.{up, down}
use Rattle.fixed_units.specs.Numbers.{IsRound, IsHalf, rounded, halved}
use Rattle.fixed_units.proofs.Signed.{signed}

-- ---- the quotient rounded down
-- it is the q with q * k ≤ a < q * k + k
pub int_div_euclid-parts : (a : ℤ) (k : ℕ) → 0 < k
    → (up (int_div_euclid a (pos k)) * k + down a ≤ down (int_div_euclid a (pos k)) * k + up a)
    × (down (int_div_euclid a (pos k)) * k + up a < up (int_div_euclid a (pos k)) * k + down a + k)
int_div_euclid-parts (pos a) k h = omega arith
int_div_euclid-parts (negsuc a) k h = omega arith

-- the remainder is what that leaves
pub int_rem_euclid-parts : (a : ℤ) (k : ℕ) → 0 < k
    → (up (int_rem_euclid a (pos k)) + up (int_div_euclid a (pos k)) * k + down a ≡ down (int_div_euclid a (pos k)) * k + up a)
    × (down (int_rem_euclid a (pos k)) ≡ 0)
    × (up (int_rem_euclid a (pos k)) < k)
int_rem_euclid-parts (pos a) k h = omega arith
int_rem_euclid-parts (negsuc a) k h = omega arith

-- no other number is that quotient
pub floor_unique : (a q r : ℤ) (k : ℕ)
    → up q * k + down a ≤ down q * k + up a → down q * k + up a < up q * k + down a + k
    → up r * k + down a ≤ down r * k + up a → down r * k + up a < up r * k + down a + k
    → q ≡ r
floor_unique a q r k ql qh rl rh =
    by_lt_z q r (λ l. let m : up q + down r + 1 ≤ up r + down q = omega (arith, signed) in absurd (omega (arith, mul-le-mul_right k m)))
    (λ le. by_lt_z r q (λ l. let m : up r + down q + 1 ≤ up q + down r = omega (arith, signed) in absurd (omega (arith, mul-le-mul_right k m)))
    (λ ge. omega (arith, signed)))

pub int_div_euclid_bounds : (a b : ℤ) → pos 0 <ℤ b → ((int_div_euclid a b *ℤ b) ≤ℤ a) × (a <ℤ (int_div_euclid a b *ℤ b +ℤ b))
int_div_euclid_bounds a (pos k) h =
    let p = int_div_euclid-parts a k (omega (arith, signed)) in
    (omega (arith, signed, p), omega (arith, signed, p))
int_div_euclid_bounds a (negsuc k) h = absurd (omega (arith, signed))

pub int_div_euclid_unique : (a b q : ℤ) → pos 0 <ℤ b → (q *ℤ b) ≤ℤ a → a <ℤ (q *ℤ b +ℤ b) → q ≡ int_div_euclid a b
int_div_euclid_unique a (pos k) q h low high =
    let p = int_div_euclid-parts a k (omega (arith, signed)) in
    floor_unique a q (int_div_euclid a (pos k)) k (omega (arith, signed)) (omega (arith, signed)) p.0 p.1
int_div_euclid_unique a (negsuc k) q h low high = absurd (omega (arith, signed))

pub int_div_euclid_only : (a b q : ℤ) → pos 0 <ℤ b → (((q *ℤ b) ≤ℤ a) × (a <ℤ (q *ℤ b +ℤ b))) ↔ (q ≡ int_div_euclid a b)
int_div_euclid_only a b q h = (
  λ p. int_div_euclid_unique a b q h p.0 p.1,
  λ e. subst (λ n. ((n *ℤ b) ≤ℤ a) × (a <ℤ (n *ℤ b +ℤ b))) (sym e) (int_div_euclid_bounds a b h),
)

-- ---- a positive divisor, as bits
-- its bits are not those of 0 or of -1
pub bits_apart : (w : Width) (b z : ℤ) (m : ℕ) → FitsSigned w b → pos 0 <ℤ b → to_z w m ≡ z → z ≤ℤ pos 0 → of_z w (to_z w (of_z w b)) ≡ m → ⊥
bits_apart w b z m f h is low e =
    let back = to_z-of_z w b f in
    let same : b ≡ z = sym back ∙ ap (to_z w) (sym (ap (of_z w) back) ∙ e) ∙ is in
    absurd (omega (arith, signed, same))

pub divisor_nonzero : (w : Width) (b : ℤ) → FitsSigned w b → pos 0 <ℤ b → to_z w 0 ≡ pos 0 → IsNonZero w (to_z w (of_z w b))
divisor_nonzero w b f h is =
    let apart : of_z w (to_z w (of_z w b)) ≢ 0 = bits_apart w b (pos 0) 0 f h is (omega (arith, signed)) in
    pos_of_ne-zero apart

-- ---- halves
pub halved-parts : (n : ℤ)
    → (up (halved n) * 2 + down n ≤ down (halved n) * 2 + up n)
    × (down (halved n) * 2 + up n ≤ up (halved n) * 2 + down n + 1)
unfolding halved
halved-parts n = omega (arith, int_div_euclid-parts n 2)

pub halved_is_half : (n : ℤ) → IsHalf n (halved n)
halved_is_half n = record { low = omega (arith, signed, halved-parts); high = omega (arith, signed, halved-parts) }

pub halved_unique : (n h : ℤ) → IsHalf n h → h ≡ halved n
halved_unique n h is = omega (arith, signed, halved-parts)

pub halved_only : (n h : ℤ) → IsHalf n h ↔ (h ≡ halved n)
halved_only n h = (halved_unique n h, λ e. subst (IsHalf n) (sym e) (halved_is_half n))

pub halved_at_most : (m n : ℤ) → m ≤ℤ n → halved m ≤ℤ halved n
halved_at_most m n l = omega (arith, signed, halved-parts m, halved-parts n)

-- ---- the nearest number
pub rounded-parts : (a : ℤ) (k : ℕ) → 0 < k
    → (up (rounded a (pos k)) * (2 * k) + 2 * down a ≤ down (rounded a (pos k)) * (2 * k) + 2 * up a + k)
    × (down (rounded a (pos k)) * (2 * k) + 2 * up a < up (rounded a (pos k)) * (2 * k) + 2 * down a + k)
unfolding rounded
rounded-parts a k h =
    let p = int_div_euclid-parts (pos 2 *ℤ a +ℤ pos k) (2 * k) (omega arith) in
    (omega (arith, signed, p), omega (arith, signed, p))

rounded_unique_at : (a n : ℤ) (k : ℕ) → 0 < k
    → up n * (2 * k) + 2 * down a ≤ down n * (2 * k) + 2 * up a + k
    → down n * (2 * k) + 2 * up a < up n * (2 * k) + 2 * down a + k
    → n ≡ rounded a (pos k)
rounded_unique_at a n k h lo hi =
    let p = rounded-parts a k h in
    floor_unique (pos 2 *ℤ a +ℤ pos k) n (rounded a (pos k)) (2 * k) (omega (arith, signed)) (omega (arith, signed)) (omega (arith, signed, p)) (omega (arith, signed, p))

pub rounded_is_round : (a b : ℤ) → pos 0 <ℤ b → IsRound a b (rounded a b)
rounded_is_round a (pos k) h =
    let p = rounded-parts a k (omega (arith, signed)) in
    record { low = omega (arith, signed, p); high = omega (arith, signed, p) }
rounded_is_round a (negsuc k) h = absurd (omega (arith, signed))

pub rounded_unique : (a b n : ℤ) → pos 0 <ℤ b → IsRound a b n → n ≡ rounded a b
rounded_unique a (pos k) n h is = rounded_unique_at a n k (omega (arith, signed)) (omega (arith, signed)) (omega (arith, signed))
rounded_unique a (negsuc k) n h is = absurd (omega (arith, signed))

pub rounded_only : (a b n : ℤ) → pos 0 <ℤ b → IsRound a b n ↔ (n ≡ rounded a b)
rounded_only a b n h = (rounded_unique a b n h, λ e. subst (IsRound a b) (sym e) (rounded_is_round a b h))

-- what divides goes through unchanged
pub rounded-*ℤ : (n b : ℤ) → pos 0 <ℤ b → rounded (n *ℤ b) b ≡ n
rounded-*ℤ n (pos k) h = sym (rounded_unique_at (n *ℤ pos k) n k (omega (arith, signed)) (omega (arith, signed)) (omega (arith, signed)))
rounded-*ℤ n (negsuc k) h = absurd (omega (arith, signed))

-- what is larger is not rounded to less
pub rounded_at_most : (m n k : ℤ) → pos 0 <ℤ k → m ≤ℤ n → rounded m k ≤ℤ rounded n k
rounded_at_most a c (pos k) h le =
    let p = rounded-parts a k (omega (arith, signed)) in
    let q = rounded-parts c k (omega (arith, signed)) in
    by_lt_z (rounded c (pos k)) (rounded a (pos k))
    (λ l. let m : up (rounded c (pos k)) + down (rounded a (pos k)) + 1 ≤ up (rounded a (pos k)) + down (rounded c (pos k)) = omega (arith, signed) in
    absurd (omega (arith, signed, p, q, mul-le-mul_right (2 * k) m)))
    (λ enough. enough)
rounded_at_most a c (negsuc k) h le = absurd (omega (arith, signed))

-- ---- the way of the code: from the quotient rounded down and its remainder
pub rounded_down : (a b q r : ℤ) → pos 0 <ℤ b → q ≡ int_div_euclid a b → r ≡ int_rem_euclid a b → r <ℤ (b -ℤ r) → q ≡ rounded a b
rounded_down a (pos k) q r h e f l =
    let u = int_div_euclid-parts a k (omega (arith, signed)) in
    let v = int_rem_euclid-parts a k (omega (arith, signed)) in
    e ∙ rounded_unique_at a _ k (omega (arith, signed)) (omega (arith, signed, u, v)) (omega (arith, signed, u, v))
rounded_down a (negsuc k) q r h e f l = absurd (omega (arith, signed))

pub rounded_up : (a b q r : ℤ) → pos 0 <ℤ b → q ≡ int_div_euclid a b → r ≡ int_rem_euclid a b → (b -ℤ r) ≤ℤ r → q +ℤ pos 1 ≡ rounded a b
rounded_up a (pos k) q r h e f l =
    let u = int_div_euclid-parts a k (omega (arith, signed)) in
    let v = int_rem_euclid-parts a k (omega (arith, signed)) in
    let n = int_div_euclid a (pos k) in
    let s : up (n +ℤ pos 1) + down n ≡ down (n +ℤ pos 1) + up n + 1 = omega (arith, signed) in
    let m = ap (λ (x : ℕ). x * k) s in
    ap (λ (z : ℤ). z +ℤ pos 1) e ∙ rounded_unique_at a _ k (omega (arith, signed)) (omega (arith, signed, u, v, m)) (omega (arith, signed, u, v, m))
rounded_up a (negsuc k) q r h e f l = absurd (omega (arith, signed))
