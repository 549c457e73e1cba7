-- Numbers of 64 bits that are reckoned with in 128 bits.
use Rattle.std.proofs.Common.{◌≡◌, ◌∙◌, ap, subst, sym, lit<, ◌+◌, ◌^◌, ℤ, ◌-ℤ◌, arith, w64, to_z, of_z, FitsSigned}
use Rattle.std.specs.Int.{w128}
use Rattle.std.proofs.lemmas.Int.{to_z-of_z}
use Rattle.fixed_units.specs.Numbers.{IsWithin}
use Rattle.fixed_units.proofs.Signed.{signed}
use Rattle.fixed_units.proofs.Within.{difference_in, fits_i128, fits_i64}
use Rattle.font_metrics.proofs.Scaling.{back64, back128}
use Rattle.layout_model.specs.Direction.{mirrored}

-- a number of 64 bits
fitting : (z : ℤ) → FitsSigned w64 z → IsWithin (2 ^ 63) z
fitting z f = record { low = omega (arith, signed, f); high = omega (arith, signed, f) }

pub told_wide : (z wide : ℤ) → FitsSigned w64 z → wide ≡ to_z w64 (of_z w64 z) → to_z w128 (of_z w128 wide) ≡ z
told_wide z wide f e =
    ap (λ (y : ℤ). to_z w128 (of_z w128 y)) (e ∙ to_z-of_z w64 z f) ∙ back128 (fitting z f) (lit< tt)

-- the difference of two
pub difference_told : (a b wide_a wide_b : ℤ) → FitsSigned w64 a → FitsSigned w64 b → wide_a ≡ to_z w64 (of_z w64 a) → wide_b ≡ to_z w64 (of_z w64 b)
    → to_z w128 (of_z w128 (to_z w128 (of_z w128 wide_a) -ℤ to_z w128 (of_z w128 wide_b))) ≡ a -ℤ b
difference_told a b wide_a wide_b f g d e =
    ap (λ (y : ℤ). to_z w128 (of_z w128 y)) (λ i. told_wide a wide_a f d i -ℤ told_wide b wide_b g e i)
    ∙ back128 (difference_in (fitting a f) (fitting b g)) (lit< tt)

pub difference_fits : (a b wide_a wide_b : ℤ) → FitsSigned w64 a → FitsSigned w64 b → wide_a ≡ to_z w64 (of_z w64 a) → wide_b ≡ to_z w64 (of_z w64 b)
    → FitsSigned w128 (to_z w128 (of_z w128 wide_a) -ℤ to_z w128 (of_z w128 wide_b))
difference_fits a b wide_a wide_b f g d e =
    let same : to_z w128 (of_z w128 wide_a) -ℤ to_z w128 (of_z w128 wide_b) ≡ a -ℤ b = λ i. told_wide a wide_a f d i -ℤ told_wide b wide_b g e i in
    subst (FitsSigned w128) (sym same) (fits_i128 (difference_in (fitting a f) (fitting b g)) (lit< tt))

-- a place seen from the other end of a whole
pub mirrored_told : (whole part x wide_whole wide_x : ℤ) → FitsSigned w64 whole → FitsSigned w64 x → IsWithin (2 ^ 66) part
    → wide_whole ≡ to_z w64 (of_z w64 whole) → wide_x ≡ to_z w64 (of_z w64 x)
    → to_z w128 (of_z w128 (to_z w128 (of_z w128 (to_z w128 (of_z w128 wide_whole) -ℤ to_z w128 (of_z w128 wide_x))) -ℤ to_z w128 (of_z w128 part)))
    ≡ mirrored whole part x
unfolding mirrored
mirrored_told whole part x wide_whole wide_x f g h d e =
    ap (λ (y : ℤ). to_z w128 (of_z w128 y)) (λ i. difference_told whole x wide_whole wide_x f g d e i -ℤ back128 h (lit< tt) i)
    ∙ back128 (difference_in (difference_in (fitting whole f) (fitting x g)) h) (lit< tt)

pub mirrored_fits : (whole part x wide_whole wide_x : ℤ) → FitsSigned w64 whole → FitsSigned w64 x → IsWithin (2 ^ 66) part
    → wide_whole ≡ to_z w64 (of_z w64 whole) → wide_x ≡ to_z w64 (of_z w64 x)
    → FitsSigned w128 (to_z w128 (of_z w128 (to_z w128 (of_z w128 wide_whole) -ℤ to_z w128 (of_z w128 wide_x))) -ℤ to_z w128 (of_z w128 part))
mirrored_fits whole part x wide_whole wide_x f g h d e =
    let told = difference_told whole x wide_whole wide_x f g d e in
    let back : to_z w128 (of_z w128 part) ≡ part = back128 h (lit< tt) in
    subst (FitsSigned w128) (λ i. sym told i -ℤ sym back i)
    (fits_i128 (difference_in (difference_in (fitting whole f) (fitting x g)) h) (lit< tt))

-- one that comes back to 64 bits
pub fits_back : (z : ℤ) → IsWithin (2 ^ 61 + 2 ^ 52) z → FitsSigned w64 (to_z w128 (of_z w128 z))
fits_back z h = subst (FitsSigned w64) (sym (back128 h (lit< tt))) (fits_i64 h (lit< tt))

pub comes_back : (z : ℤ) → IsWithin (2 ^ 61 + 2 ^ 52) z → to_z w64 (of_z w64 (to_z w128 (of_z w128 z))) ≡ z
comes_back z h = ap (λ (y : ℤ). to_z w64 (of_z w64 y)) (back128 h (lit< tt)) ∙ back64 h (lit< tt)
