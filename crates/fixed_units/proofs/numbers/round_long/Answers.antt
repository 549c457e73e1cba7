use Rattle.std.proofs.Common.{rules, ◌≡◌, refl, lit<, pos, negsuc, ◌+ℤ◌, ◌-ℤ◌, FitsSigned, arith}
use Rattle.std.specs.Int.{w128}
use Rattle.std.proofs.lemmas.Int.{to_z-of_z}
use Rattle.fixed_units.specs.Numbers.{rounded}
use Rattle.fixed_units.proofs.Signed.{signed}
use Rattle.fixed_units.proofs.Rounding.{bits_apart, divisor_nonzero, rounded_down, rounded_up}
use Rattle.fixed_units.proofs.Within.{fits_i128}
use Rattle.fixed_units.proofs.numbers.round_long.Goals as goal

pub div_euclid-down-requires-clause-nonzero : goal.div_euclid-down-requires-clause-nonzero
div_euclid-down-requires-clause-nonzero c = divisor_nonzero w128 c.args.value.den (search rules) c.requires.positive refl

pub div_euclid-down-requires-clause-no_overflow : goal.div_euclid-down-requires-clause-no_overflow
div_euclid-down-requires-clause-no_overflow c =
    λ minus_one least. bits_apart w128 c.args.value.den (negsuc 0) _ (search rules) c.requires.positive refl (omega (arith, signed)) minus_one

pub rem_euclid-rest-requires-clause-nonzero : goal.rem_euclid-rest-requires-clause-nonzero
rem_euclid-rest-requires-clause-nonzero c = divisor_nonzero w128 c.args.value.den (search rules) c.requires.positive refl

pub rem_euclid-rest-requires-clause-no_overflow : goal.rem_euclid-rest-requires-clause-no_overflow
rem_euclid-rest-requires-clause-no_overflow c =
    λ minus_one least. bits_apart w128 c.args.value.den (negsuc 0) _ (search rules) c.requires.positive refl (omega (arith, signed)) minus_one

pub overflow_sub-value : goal.overflow_sub-value
overflow_sub-value c =
    let f : FitsSigned w128 c.args.value.den = search rules in
    let g : FitsSigned w128 c.rem_euclid-rest.result = omega (arith, signed, c.rem_euclid-rest.type_inv) in
    let s : FitsSigned w128 (c.args.value.den -ℤ c.rem_euclid-rest.result) = omega (arith, signed, c.rem_euclid-rest.ensures.lower_bound) in
    simp to_z-of_z s

below : (c : goal.Then-rest-value) → c.div_euclid-down.result ≡ rounded c.args.value.num c.args.value.den
below c =
    let f : FitsSigned w128 c.args.value.num = fits_i128 c.requires.num_in (lit< tt) in
    let g : FitsSigned w128 c.args.value.den = search rules in
    let s : FitsSigned w128 (c.args.value.den -ℤ c.rem_euclid-rest.result) = omega (arith, signed, c.rem_euclid-rest.ensures.lower_bound) in
    let q = simp to_z-of_z at c.div_euclid-down.ensures in
    let r = simp to_z-of_z at c.rem_euclid-rest.ensures.value in
    rounded_down _ _ _ _ c.requires.positive q r (omega (arith, signed))

above : (c : goal.Else-rest-value) → c.div_euclid-down.result +ℤ pos 1 ≡ rounded c.args.value.num c.args.value.den
above c =
    let f : FitsSigned w128 c.args.value.num = fits_i128 c.requires.num_in (lit< tt) in
    let g : FitsSigned w128 c.args.value.den = search rules in
    let s : FitsSigned w128 (c.args.value.den -ℤ c.rem_euclid-rest.result) = omega (arith, signed, c.rem_euclid-rest.ensures.lower_bound) in
    let q = simp to_z-of_z at c.div_euclid-down.ensures in
    let r = simp to_z-of_z at c.rem_euclid-rest.ensures.value in
    rounded_up _ _ _ _ c.requires.positive q r (omega (arith, signed))

pub overflow_add-result : goal.overflow_add-result
overflow_add-result c =
    let f : FitsSigned w128 c.div_euclid-down.result = omega (arith, signed, c.div_euclid-down.type_inv) in
    let s : FitsSigned w128 (c.div_euclid-down.result +ℤ pos 1) = rw (above c) (omega (arith, signed, c.requires.result_in)) in
    simp to_z-of_z s

pub overflow_cast-result : goal.overflow_cast-result
overflow_cast-result c = let e = below c in omega (arith, signed)

pub overflow_cast-result-else-rest-value : goal.overflow_cast-result-else-rest-value
overflow_cast-result-else-rest-value c = let e = above c in omega (arith, signed)

pub returns-then-rest-value : goal.returns-then-rest-value
returns-then-rest-value c = let e = below c in omega (arith, signed)

pub returns-else-rest-value : goal.returns-else-rest-value
returns-else-rest-value c = let e = above c in omega (arith, signed)
