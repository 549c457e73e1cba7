use Rattle.std.proofs.Common.{◌≡◌, refl, pos, negsuc, ◌+ℤ◌, ◌-ℤ◌, FitsSigned, w64, arith}
use Rattle.std.proofs.lemmas.Int.{to_z-of_z}
use Rattle.fixed_units.specs.Numbers.{rounded}
use Rattle.fixed_units.proofs.Signed.{signed}
use Rattle.fixed_units.proofs.Rounding.{bits_apart, divisor_nonzero, rounded_down, rounded_up}
use Rattle.fixed_units.proofs.numbers.round_short.Goals as goal

pub div_euclid-down-requires-clause-nonzero : goal.div_euclid-down-requires-clause-nonzero
div_euclid-down-requires-clause-nonzero c = divisor_nonzero w64 c.args.den c.ranges.den c.requires.positive refl

pub div_euclid-down-requires-clause-no_overflow : goal.div_euclid-down-requires-clause-no_overflow
div_euclid-down-requires-clause-no_overflow c =
    λ minus_one least. bits_apart w64 c.args.den (negsuc 0) _ c.ranges.den c.requires.positive refl (omega (arith, signed)) minus_one

pub rem_euclid-rest-requires-clause-nonzero : goal.rem_euclid-rest-requires-clause-nonzero
rem_euclid-rest-requires-clause-nonzero c = divisor_nonzero w64 c.args.den c.ranges.den c.requires.positive refl

pub rem_euclid-rest-requires-clause-no_overflow : goal.rem_euclid-rest-requires-clause-no_overflow
rem_euclid-rest-requires-clause-no_overflow c =
    λ minus_one least. bits_apart w64 c.args.den (negsuc 0) _ c.ranges.den c.requires.positive refl (omega (arith, signed)) minus_one

pub overflow_sub-den : goal.overflow_sub-den
overflow_sub-den c =
    let f : FitsSigned w64 c.args.den = c.ranges.den in
    let g : FitsSigned w64 c.rem_euclid-rest.result = omega (arith, signed, c.rem_euclid-rest.type_inv) in
    let s : FitsSigned w64 (c.args.den -ℤ c.rem_euclid-rest.result) = omega (arith, signed, c.rem_euclid-rest.ensures.lower_bound) in
    simp to_z-of_z s

below : (c : goal.Then-rest-den) → c.div_euclid-down.result ≡ rounded c.args.num c.args.den
below c =
    let f : FitsSigned w64 c.args.num = c.ranges.num in
    let g : FitsSigned w64 c.args.den = c.ranges.den in
    let s : FitsSigned w64 (c.args.den -ℤ c.rem_euclid-rest.result) = omega (arith, signed, c.rem_euclid-rest.ensures.lower_bound) in
    let q = simp to_z-of_z at c.div_euclid-down.ensures in
    let r = simp to_z-of_z at c.rem_euclid-rest.ensures.value in
    rounded_down _ _ _ _ c.requires.positive q r (omega (arith, signed))

above : (c : goal.Else-rest-den) → c.div_euclid-down.result +ℤ pos 1 ≡ rounded c.args.num c.args.den
above c =
    let f : FitsSigned w64 c.args.num = c.ranges.num in
    let g : FitsSigned w64 c.args.den = c.ranges.den in
    let s : FitsSigned w64 (c.args.den -ℤ c.rem_euclid-rest.result) = omega (arith, signed, c.rem_euclid-rest.ensures.lower_bound) in
    let q = simp to_z-of_z at c.div_euclid-down.ensures in
    let r = simp to_z-of_z at c.rem_euclid-rest.ensures.value in
    rounded_up _ _ _ _ c.requires.positive q r (omega (arith, signed))

pub overflow_add-result : goal.overflow_add-result
overflow_add-result c =
    let f : FitsSigned w64 c.div_euclid-down.result = omega (arith, signed, c.div_euclid-down.type_inv) in
    let s : FitsSigned w64 (c.div_euclid-down.result +ℤ pos 1) = rw (above c) (omega (arith, signed, c.requires.result_in)) in
    simp to_z-of_z s

pub returns-then-rest-den : goal.returns-then-rest-den
returns-then-rest-den c = let e = below c in omega (arith, signed)

pub returns-else-rest-den : goal.returns-else-rest-den
returns-else-rest-den c = let e = above c in omega (arith, signed)
