use Rattle.std.proofs.Common.{◌≡◌, ◌∙◌, ap, subst, sym, ◌≤◌, ◌^◌, pos, ◌*ℤ◌, ◌≤ℤ◌, FitsSigned, to_z, of_z, arith, lit<, lit≤}
use Rattle.std.specs.Int.{w128}
use Rattle.std.proofs.lemmas.Int.{ints, to_z-of_z}
use Rattle.fixed_units.specs.Numbers.{IsWithin}
use Rattle.fixed_units.proofs.Signed.{signed}
use Rattle.fixed_units.proofs.Within.{fits_i128, natural_in, product_in, widened}
use Rattle.style_scope.proofs.Scales.{power_high, power_low, product_positive}
use Rattle.style_scope.proofs.size.times_power.Goals as goal
use Rattle.style_scope.proofs.size.times_power.Goals.{After-pow}

high : (c : After-pow) → c.pow.result ≤ 100 ^ 13
high c = let p = power_high c.args.number c.args.levels c.requires.number c.requires.levels in omega (arith, p, c.pow.ensures)

product : (c : After-pow) → to_z w128 (of_z w128 c.from.result) *ℤ to_z w128 c.pow.result ≡ c.args.percent *ℤ pos (c.args.number ^ c.args.levels)
product c =
    let p = c.requires.percent_in in
    let h = high c in
    let percent : c.from.result ≡ c.args.percent = omega (arith, signed, c.from.ensures) in
    let first : to_z w128 (of_z w128 c.from.result) ≡ c.args.percent = omega (arith, signed, percent, p.low, p.high) in
    let second : to_z w128 c.pow.result ≡ pos c.pow.result = omega (arith, ints, h) in
    (λ i. first i *ℤ second i) ∙ ap (λ n. c.args.percent *ℤ pos n) c.pow.ensures

within : (c : After-pow) → IsWithin (2 ^ 95) (c.args.percent *ℤ pos (c.args.number ^ c.args.levels))
within c =
    let p = c.requires.percent_in in
    let percent : IsWithin 200 c.args.percent = record { low = omega (arith, signed, p.low); high = p.high } in
    let power : IsWithin (100 ^ 13) (pos (c.args.number ^ c.args.levels)) =
    widened (100 ^ 13) (natural_in _) (power_high c.args.number c.args.levels c.requires.number c.requires.levels) in
    widened (2 ^ 95) (product_in percent power) (lit≤ tt)

back : (c : After-pow) → to_z w128 (of_z w128 (to_z w128 (of_z w128 c.from.result) *ℤ to_z w128 c.pow.result)) ≡ c.args.percent *ℤ pos (c.args.number ^ c.args.levels)
back c = ap (λ z. to_z w128 (of_z w128 z)) (product c) ∙ to_z-of_z w128 _ (fits_i128 (within c) (lit< tt))

pub pow-requires : goal.pow-requires
pow-requires c =
    let p = power_high c.args.number c.args.levels c.requires.number c.requires.levels in omega (arith, p)

pub overflow_cast-result : goal.overflow_cast-result
overflow_cast-result c = let h = high (goal.at.overflow_cast-result c).After-pow in omega (arith, signed, h)

pub overflow_mul-result : goal.overflow_mul-result
overflow_mul-result c =
    let a = (goal.at.overflow_mul-result c).After-pow in
    subst (FitsSigned w128) (sym (product a)) (fits_i128 (within a) (lit< tt))

pub returns-clause-value : goal.returns-clause-value
returns-clause-value c = back c

pub returns-clause-low : goal.returns-clause-low
returns-clause-low c =
    let p = c.requires.percent_in in
    subst (λ z. pos 1 ≤ℤ z) (sym (back c)) (product_positive c.args.percent (c.args.number ^ c.args.levels) p.low (power_low c.args.number c.args.levels c.requires.some))

pub returns-clause-within : goal.returns-clause-within
returns-clause-within c = subst (IsWithin (2 ^ 95)) (sym (back c)) (within c)
