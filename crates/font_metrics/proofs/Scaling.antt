-- How far values at a font size reach, and that machine numbers hold them.
use Rattle.std.proofs.Common.{FitsSigned, w32, ◌≡◌, ◌∙◌, ap, subst, sym, ℕ, ◌*◌, ◌<◌, ◌≤◌, ◌^◌, to_z, of_z, w64, lit<, arith, ℤ, pos, ◌*ℤ◌, ◌≤ℤ◌}
use Rattle.std.specs.Int.{w128}
use Rattle.std.proofs.lemmas.Int.{to_z-of_z}
use Rattle.fixed_units.specs.Numbers.{IsWithin}
use Rattle.fixed_units.proofs.Signed.{signed}
use Rattle.fixed_units.proofs.Within.{quotient_in, product_in, natural_in, widened, fits_i64, fits_i128}
use Rattle.font_metrics.specs.Metrics.{MetricsValue, scale_of}

-- an em has 16 design units at the least
pub scale_in : (m : MetricsValue) (k : ℕ) (value size : ℤ) → 16 ≤ m.upem → IsWithin (k * 16) (value *ℤ size)
    → IsWithin k (scale_of m value size)
unfolding scale_of
scale_in m k value size least h = quotient_in (pos m.upem) (lit< tt) (omega (arith, signed)) h

-- a font size lies from 0 to 2^20
pub size_in : (size : ℤ) → pos 0 ≤ℤ size → size ≤ℤ pos (2 ^ 20) → IsWithin (2 ^ 20) size
size_in size low high = record { low = omega (arith, signed); high = high }

-- a number of the file that isn't negative
pub line_in : (m : MetricsValue) (n : ℕ) (size : ℤ) → 16 ≤ m.upem → n ≤ 65535 → pos 0 ≤ℤ size
    → size ≤ℤ pos (2 ^ 20) → IsWithin (2 ^ 32) (scale_of m (pos n) size)
line_in m n size least small low high =
    scale_in m (2 ^ 32) (pos n) size least (product_in (widened (2 ^ 16) (natural_in n) (omega arith)) (size_in size low high))

-- numbers within the range of a width are as they were written
pub back64 : {m : ℕ} {z : ℤ} → IsWithin m z → m < 2 ^ 63 → to_z w64 (of_z w64 z) ≡ z
back64 h small = to_z-of_z w64 _ (fits_i64 h small)

pub back128 : {m : ℕ} {z : ℤ} → IsWithin m z → m < 2 ^ 127 → to_z w128 (of_z w128 z) ≡ z
back128 h small = to_z-of_z w128 _ (fits_i128 h small)

pub within64 : {m : ℕ} {z : ℤ} → IsWithin m z → m < 2 ^ 63 → IsWithin m (to_z w64 (of_z w64 z))
within64 {m} h small = subst (IsWithin m) (sym (back64 h small)) h

-- a product of two numbers within 2^20, written at 64 bits and then at 128
pub product_back : (value size wide : ℤ) → IsWithin (2 ^ 20) value → IsWithin (2 ^ 20) size
    → wide ≡ to_z w64 (of_z w64 (to_z w64 (of_z w64 value) *ℤ to_z w64 (of_z w64 size)))
    → to_z w128 (of_z w128 wide) ≡ value *ℤ size
product_back value size wide v s e =
    let product : IsWithin (2 ^ 40) (value *ℤ size) = product_in v s in
    let parts : to_z w64 (of_z w64 value) *ℤ to_z w64 (of_z w64 size) ≡ value *ℤ size = λ i. back64 v (lit< tt) i *ℤ back64 s (lit< tt) i in
    ap (λ z. to_z w128 (of_z w128 z)) (e ∙ ap (λ z. to_z w64 (of_z w64 z)) parts ∙ back64 product (lit< tt)) ∙ back128 product (lit< tt)

pub upem_back : (upem : ℕ) (wide : ℤ) → upem < 2 ^ 16 → wide ≡ pos upem
    → to_z w128 (of_z w128 wide) ≡ pos upem
upem_back upem wide small e = ap (λ z. to_z w128 (of_z w128 z)) e ∙ back128 (natural_in upem) (omega arith)

fits_i32 : {z : ℤ} → IsWithin (2 ^ 16) z → FitsSigned w32 z
fits_i32 h = omega (arith, signed)

pub back32 : {z : ℤ} → IsWithin (2 ^ 16) z → to_z w32 (of_z w32 z) ≡ z
back32 h = to_z-of_z w32 _ (fits_i32 h)
