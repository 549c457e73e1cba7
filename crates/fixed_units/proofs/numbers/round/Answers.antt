use Rattle.std.proofs.Common.{rules, ◌≡◌, ◌∙◌, sym, subst, lit<, ◌^◌, ℤ, FitsSigned, w64, to_z, of_z, arith}
use Rattle.std.proofs.lemmas.Int.{to_z-of_z}
use Rattle.std.specs.Int.{w128}
use Rattle.fixed_units.specs.Numbers.{IsRound, IsWithin, rounded}
use Rattle.fixed_units.proofs.Rounding.{rounded_is_round}
use Rattle.fixed_units.proofs.Signed.{signed}
use Rattle.fixed_units.proofs.Within.{fits_i64, fits_i128}
use Rattle.fixed_units.proofs.numbers.round.Goals as goal

-- a short number comes back from 64 bits
back_from_short : (z : ℤ) → FitsSigned w128 z → IsWithin (2 ^ 62) (to_z w128 (of_z w128 z)) → to_z w64 (of_z w64 (to_z w128 (of_z w128 z))) ≡ z
back_from_short z f p = to_z-of_z w64 _ (fits_i64 p (lit< tt)) ∙ to_z-of_z w128 z f

pub overflow_cast-value : goal.overflow_cast-value
overflow_cast-value c = fits_i64 (c.is_short.ensures c.if-is_short.true) (lit< tt)

pub overflow_cast-value-then-is_short-2 : goal.overflow_cast-value-then-is_short-2
overflow_cast-value-then-is_short-2 c = fits_i64 (c.is_short-then-is_short.ensures c.if-is_short-2.true) (lit< tt)

pub round_short-requires-clause-positive : goal.round_short-requires-clause-positive
round_short-requires-clause-positive c =
    let den = back_from_short c.args.value.den (search rules) (c.is_short-then-is_short.ensures c.if-is_short-2.true) in
    rw den c.requires.positive

pub round_short-requires-clause-den_in : goal.round_short-requires-clause-den_in
round_short-requires-clause-den_in c =
    let d = c.is_short-then-is_short.ensures c.if-is_short-2.true in
    rw (to_z-of_z w64 _ (fits_i64 d (lit< tt))) d.high

pub round_short-requires-clause-result_in : goal.round_short-requires-clause-result_in
round_short-requires-clause-result_in c =
    let num = back_from_short c.args.value.num (fits_i128 c.requires.num_in (lit< tt)) (c.is_short.ensures c.if-is_short.true) in
    let den = back_from_short c.args.value.den (search rules) (c.is_short-then-is_short.ensures c.if-is_short-2.true) in
    rw (num, den) c.requires.result_in

pub returns-then-is_short-2-clause-value : goal.returns-then-is_short-2-clause-value
returns-then-is_short-2-clause-value c =
    let num = back_from_short c.args.value.num (fits_i128 c.requires.num_in (lit< tt)) (c.is_short.ensures c.if-is_short.true) in
    let den = back_from_short c.args.value.den (search rules) (c.is_short-then-is_short.ensures c.if-is_short-2.true) in
    let value = c.round_short.ensures ∙ (λ i. rounded (num i) (den i)) in
    omega (arith, signed, value, c.round_short.type_inv)

pub returns-else-is_short-clause-value : goal.returns-else-is_short-clause-value
returns-else-is_short-clause-value c = omega (arith, signed, c.round_long.ensures, c.round_long.type_inv)

pub returns-then-is_short-2-clause-nearest : goal.returns-then-is_short-2-clause-nearest
returns-then-is_short-2-clause-nearest c =
    subst (IsRound c.args.value.num c.args.value.den) (sym (returns-then-is_short-2-clause-value c)) (rounded_is_round _ _ c.requires.positive)

pub returns-else-is_short-clause-nearest : goal.returns-else-is_short-clause-nearest
returns-else-is_short-clause-nearest c =
    subst (IsRound c.args.value.num c.args.value.den) (sym (returns-else-is_short-clause-value c)) (rounded_is_round _ _ c.requires.positive)
