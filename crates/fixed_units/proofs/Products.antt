-- Products of signed numbers: how they distribute, associate and keep order.
use Rattle.std.proofs.Common.{◌≡◌, ◌+◌, ◌*◌, ◌<◌, ◌≤◌, ap, ◌∙◌, arith, ℤ, pos, negsuc, ◌+ℤ◌, ◌-ℤ◌, ◌*ℤ◌, ◌≤ℤ◌, ◌<ℤ◌}
use Rattle.std.proofs.Math.IntN.{*ℤ_comm}
use Rattle.std.proofs.Math.Nat.{mul-le-mul_right}
use Rattle.std.proofs.lemmas.Int.{by_lt_z}
use borrow.Author.Differences.{up, down, sum_is_lem, product_is}
use Rattle.fixed_units.proofs.Signed.{signed}

-- ---- equations
pub *ℤ-+ℤ : (a b c : ℤ) → a *ℤ (b +ℤ c) ≡ a *ℤ b +ℤ a *ℤ c
*ℤ-+ℤ a b c =
    let s = sum_is_lem b c in
    let u : up a * (up (b +ℤ c) + down b + down c) ≡ up a * (down (b +ℤ c) + up b + up c) = ap (λ n. up a * n) s in
    let d : down a * (up (b +ℤ c) + down b + down c) ≡ down a * (down (b +ℤ c) + up b + up c) = ap (λ n. down a * n) s in
    omega (arith, signed, u, d)

pub +ℤ-*ℤ : (a b c : ℤ) → (a +ℤ b) *ℤ c ≡ a *ℤ c +ℤ b *ℤ c
+ℤ-*ℤ a b c = *ℤ_comm (a +ℤ b) c ∙ *ℤ-+ℤ c a b ∙ ap (λ x. x +ℤ c *ℤ b) (*ℤ_comm c a) ∙ ap (λ x. a *ℤ c +ℤ x) (*ℤ_comm c b)

pub *ℤ--ℤ : (a b c : ℤ) → a *ℤ (b -ℤ c) ≡ a *ℤ b -ℤ a *ℤ c
*ℤ--ℤ a b c =
    let s : up (b -ℤ c) + down b + up c ≡ down (b -ℤ c) + up b + down c = omega (arith, signed) in
    let u : up a * (up (b -ℤ c) + down b + up c) ≡ up a * (down (b -ℤ c) + up b + down c) = ap (λ n. up a * n) s in
    let d : down a * (up (b -ℤ c) + down b + up c) ≡ down a * (down (b -ℤ c) + up b + down c) = ap (λ n. down a * n) s in
    omega (arith, signed, u, d)

pub -ℤ-*ℤ : (a b c : ℤ) → (a -ℤ b) *ℤ c ≡ a *ℤ c -ℤ b *ℤ c
-ℤ-*ℤ a b c = *ℤ_comm (a -ℤ b) c ∙ *ℤ--ℤ c a b ∙ ap (λ x. x -ℤ c *ℤ b) (*ℤ_comm c a) ∙ ap (λ x. a *ℤ c -ℤ x) (*ℤ_comm c b)

pub *ℤ-*ℤ : (a b c : ℤ) → a *ℤ b *ℤ c ≡ a *ℤ (b *ℤ c)
*ℤ-*ℤ a b c =
    let p = product_is a b in
    let q = product_is b c in
    let pu = ap (λ n. n * up c) p.0 in
    let pv = ap (λ n. n * down c) p.0 in
    let pw = ap (λ n. n * up c) p.1 in
    let px = ap (λ n. n * down c) p.1 in
    let qu = ap (λ n. up a * n) q.0 in
    let qv = ap (λ n. down a * n) q.0 in
    let qw = ap (λ n. up a * n) q.1 in
    let qx = ap (λ n. down a * n) q.1 in
    omega (arith, signed, pu, pv, pw, px, qu, qv, qw, qx)

-- ---- order: a factor that is not negative keeps it, and a positive one also gives it back
pub product_at_most : (a b c : ℤ) → pos 0 ≤ℤ c → a ≤ℤ b → (a *ℤ c) ≤ℤ (b *ℤ c)
product_at_most a b (pos k) h l =
    let m : up a + down b ≤ up b + down a = omega (arith, signed) in
    omega (arith, signed, mul-le-mul_right k m)
product_at_most a b (negsuc k) h l = absurd (omega (arith, signed))

pub product_below : (a b c : ℤ) → pos 0 <ℤ c → a <ℤ b → (a *ℤ c) <ℤ (b *ℤ c)
product_below a b (pos k) h l =
    let positive : 0 < k = omega (arith, signed) in
    let m : up a + down b + 1 ≤ up b + down a = omega (arith, signed) in
    omega (arith, signed, mul-le-mul_right k m)
product_below a b (negsuc k) h l = absurd (omega (arith, signed))

pub at_most_from_product : (a b c : ℤ) → pos 0 <ℤ c → (a *ℤ c) ≤ℤ (b *ℤ c) → a ≤ℤ b
at_most_from_product a b c h l = by_lt_z b a (λ less. let p = product_below b a c h less in absurd (omega (arith, signed))) (λ enough. enough)

pub below_from_product : (a b c : ℤ) → pos 0 <ℤ c → (a *ℤ c) <ℤ (b *ℤ c) → a <ℤ b
below_from_product a b c h l =
    by_lt_z a b (λ less. less) (λ no. let p = product_at_most b a c (omega (arith, signed)) no in absurd (omega (arith, signed)))

pub same_from_product : (a b c : ℤ) → pos 0 <ℤ c → a *ℤ c ≡ b *ℤ c → a ≡ b
same_from_product a b c h e =
    let l = at_most_from_product a b c h (omega (arith, signed)) in
    let m = at_most_from_product b a c h (omega (arith, signed)) in
    omega (arith, signed)

pub product_not_negative : (a b : ℤ) → pos 0 ≤ℤ a → pos 0 ≤ℤ b → pos 0 ≤ℤ (a *ℤ b)
product_not_negative (pos a) (pos b) h k = omega (arith, signed)
product_not_negative (pos a) (negsuc b) h k = absurd (omega (arith, signed))
product_not_negative (negsuc a) b h k = absurd (omega (arith, signed))
