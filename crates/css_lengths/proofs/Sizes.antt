-- How long lengths are.
use Rattle.std.proofs.Common.{◌≡◌, ◌∙◌, ap, ℕ, ◌*◌, ◌^◌, ◌<◌, ℤ, pos, negsuc, ◌*ℤ◌, ◌<ℤ◌, FitsSigned, lit<, refl, to_z, of_z, arith}
use Rattle.std.proofs.lemmas.Int.{to_z-of_z}
use Rattle.std.specs.Int.{w128}
use Rattle.css_lengths.specs.Lengths.{IsSize, millionths_of, ratio}
use Rattle.fixed_units.specs.Numbers.{IsWithin, rounded}
use Rattle.fixed_units.specs.declared.numbers.Ratio.{Ratio}
use Rattle.fixed_units.proofs.Signed.{signed}
use Rattle.fixed_units.proofs.Within.{widened, fits_i128, product_in, quotient_in}

-- a number that went to 128 bits and is read again
abbrev back : ℤ → ℤ
back z = to_z w128 (of_z w128 z)

pub divisor_positive : (size : Ratio) → IsSize size → pos 0 <ℤ (pos 1000000 *ℤ size.den)
divisor_positive size s = omega (arith, signed, s)

pub product_small : (n : ℤ) (size : Ratio) → IsWithin (10 ^ 15) n → IsSize size → IsWithin (2 ^ 126) (n *ℤ size.num)
product_small n size p s =
    let q : IsWithin (2 ^ 47) size.num = record { low = omega (arith, signed, s); high = omega (arith, signed, s) } in
    widened (2 ^ 126) (product_in p q) (omega arith)

quotient_small : (n num : ℤ) (d : ℕ) → IsWithin (10 ^ 15) n → IsWithin (2 ^ 32 * d) num → 0 < d
    → IsWithin (10 ^ 9 * 2 ^ 32) (rounded (n *ℤ num) (pos 1000000 *ℤ pos d))
quotient_small n num d p q h =
    quotient_in {k = 1000000 * d} (pos 1000000 *ℤ pos d) (omega arith) (omega (arith, signed))
    (widened (10 ^ 9 * 2 ^ 32 * (1000000 * d)) (product_in p q) (omega arith))

small_at : (n num den : ℤ) → IsWithin (10 ^ 15) n → IsSize (ratio num den) → IsWithin (10 ^ 9 * 2 ^ 32) (millionths_of n (ratio num den))
small_at n num (pos d) p s =
    quotient_small n num d p (record { low = omega (arith, signed, s); high = omega (arith, signed, s) }) (omega (arith, signed, s))
small_at n num (negsuc d) p s = absurd (omega (arith, signed, s))

pub millionths_small : (n : ℤ) (size : Ratio) → IsWithin (10 ^ 15) n → IsSize size → IsWithin (10 ^ 9 * 2 ^ 32) (millionths_of n size)
millionths_small n size p s = small_at n size.num size.den p s

-- the code's way through 128 bits
module _ (n : ℤ) (size : Ratio) (p : IsWithin (10 ^ 15) n) (s : IsSize size) where
  numerator_fits : FitsSigned w128 size.num
  numerator_fits = omega (arith, signed, s)

  divisor_fits : FitsSigned w128 size.den
  divisor_fits = omega (arith, signed, s)

  pub numerator_product : FitsSigned w128 (back n *ℤ back size.num)
  numerator_product =
      let f = numerator_fits in
      let g : FitsSigned w128 n = omega (arith, signed, p) in
      let h : FitsSigned w128 (n *ℤ size.num) = fits_i128 (product_small n size p s) (lit< tt) in
      simp to_z-of_z h

  pub divisor_product : FitsSigned w128 (pos 1000000 *ℤ back size.den)
  divisor_product =
      let f = divisor_fits in
      let h : FitsSigned w128 (pos 1000000 *ℤ size.den) = omega (arith, signed, s) in
      simp to_z-of_z h

  pub numerator_back : back (back n *ℤ back size.num) ≡ n *ℤ size.num
  numerator_back =
      let f = numerator_fits in
      let g : FitsSigned w128 n = omega (arith, signed, p) in
      let h : FitsSigned w128 (n *ℤ size.num) = fits_i128 (product_small n size p s) (lit< tt) in
      simp to_z-of_z refl

  pub divisor_back : back (pos 1000000 *ℤ back size.den) ≡ pos 1000000 *ℤ size.den
  divisor_back =
      let f = divisor_fits in
      let h : FitsSigned w128 (pos 1000000 *ℤ size.den) = omega (arith, signed, s) in
      simp to_z-of_z refl

  pub quotient_back : rounded (back (back n *ℤ back size.num)) (back (pos 1000000 *ℤ back size.den)) ≡ millionths_of n size
  quotient_back =
      ap (λ a. rounded a (back (pos 1000000 *ℤ back size.den))) numerator_back
      ∙ ap (λ b. rounded (n *ℤ size.num) b) divisor_back
