use Rattle.std.proofs.Common.{rules, ◌≡◌, ◌∙◌, ap, sym, subst, pos, ◌-ℤ◌, ◌*ℤ◌, ◌≤ℤ◌, ◌<ℤ◌, FitsSigned, w64, to_z, of_z, arith, Some}
use Rattle.std.specs.Int.{w128}
use Rattle.std.proofs.lemmas.Int.{to_z-of_z}
use Rattle.fixed_units.specs.Numbers.{rounded}
use Rattle.fixed_units.proofs.Rounding.{rounded-*ℤ}
use Rattle.fixed_units.proofs.Signed.{signed}
use Rattle.style_scope.specs.Sizes.{in_range_of}
use Rattle.style_scope.proofs.Scales.{beyond, in_reach, past_range, product_not_below, size_high, size_low}
use Rattle.style_scope.proofs.size.scaled.Goals as goal
use Rattle.style_scope.proofs.size.scaled.Goals.{After-checked_mul}

product : (c : After-checked_mul) → to_z w128 (of_z w128 c.from.result) *ℤ to_z w128 (of_z w128 c.args.scale.num) ≡ c.args.base *ℤ c.args.scale.num
product c =
    let base_fits = c.ranges.base in
    let num_fits : FitsSigned w128 c.args.scale.num = search rules in
    let base : c.from.result ≡ c.args.base = omega (arith, signed, c.from.ensures) in
    let first : to_z w128 (of_z w128 c.from.result) ≡ c.args.base = omega (arith, signed, base) in
    (λ i. first i *ℤ to_z-of_z w128 c.args.scale.num num_fits i)

low : (c : After-checked_mul) → pos 0 ≤ℤ (c.args.base *ℤ c.args.scale.num)
low c = product_not_below c.args.base c.args.scale.num c.requires.base c.requires.num_low

pub returns-then-scale-clause-value : goal.returns-then-scale-clause-value
returns-then-scale-clause-value c =
    let num_fits : FitsSigned w128 c.args.scale.num = search rules in
    let den_fits : FitsSigned w128 c.args.scale.den = search rules in
    let same : c.args.scale.num ≡ c.args.scale.den =
    sym (to_z-of_z w128 c.args.scale.num num_fits) ∙ ap (to_z w128) c.if-scale.true ∙ to_z-of_z w128 c.args.scale.den den_fits in
    let one : pos 0 <ℤ c.args.scale.den = omega (arith, signed, c.requires.den_low) in
    let base : rounded (c.args.base *ℤ c.args.scale.num) c.args.scale.den ≡ c.args.base =
    ap (λ z. rounded (c.args.base *ℤ z) c.args.scale.den) same ∙ rounded-*ℤ c.args.base c.args.scale.den one in
    c.in_range.ensures.value ∙ ap in_range_of (to_z-of_z w64 c.args.base c.ranges.base ∙ sym base)

pub returns-in_default-clause-value : goal.returns-in_default-clause-value
returns-in_default-clause-value c =
    let a = (goal.at.returns-in_default-clause-value c).After-checked_mul in
    sym (past_range _ _ c.requires.den_low c.requires.den_in (low a) (λ fits. c.in_default.ensures (subst (FitsSigned w128) (sym (product a)) fits)))

pub overflow_sub-end : goal.overflow_sub-end
overflow_sub-end c =
    let a = (goal.at.overflow_sub-end c).After-checked_mul in
    let num : c.in-Some.num ≡ c.args.base *ℤ c.args.scale.num = c.in-Some.ensures.1 ∙ product a in
    let fits : FitsSigned w128 c.in-Some.num = subst (FitsSigned w128) (sym c.in-Some.ensures.1) c.in-Some.ensures.0 in
    let above : pos 0 ≤ℤ c.in-Some.num = subst (λ z. pos 0 ≤ℤ z) (sym num) (low a) in
    omega (arith, signed, c.requires.den_low, c.requires.den_in, fits, above)

pub returns-then-end-num-clause-value : goal.returns-then-end-num-clause-value
returns-then-end-num-clause-value c =
    let a = (goal.at.returns-then-end-num-clause-value c).After-checked_mul in
    let num : c.in-Some.num ≡ c.args.base *ℤ c.args.scale.num = c.in-Some.ensures.1 ∙ product a in
    let fits : FitsSigned w128 c.in-Some.num = subst (FitsSigned w128) (sym c.in-Some.ensures.1) c.in-Some.ensures.0 in
    let above : pos 0 ≤ℤ c.in-Some.num = subst (λ z. pos 0 ≤ℤ z) (sym num) (low a) in
    let large : ((pos 2097153 *ℤ c.args.scale.den) -ℤ c.in-Some.num) ≤ℤ c.in-Some.num =
    omega (arith, signed, c.if-end-num.true, c.requires.den_low, c.requires.den_in, fits, above) in
    sym (beyond _ _ c.requires.den_low (subst (λ z. ((pos 2097153 *ℤ c.args.scale.den) -ℤ z) ≤ℤ z) num large))

pub round-requires-clause-num_in : goal.round-requires-clause-num_in
round-requires-clause-num_in c =
    let a = (goal.at.round-requires-clause-num_in c).After-checked_mul in
    let num : c.in-Some.num ≡ c.args.base *ℤ c.args.scale.num = c.in-Some.ensures.1 ∙ product a in
    let fits : FitsSigned w128 c.in-Some.num = subst (FitsSigned w128) (sym c.in-Some.ensures.1) c.in-Some.ensures.0 in
    let above : pos 0 ≤ℤ c.in-Some.num = subst (λ z. pos 0 ≤ℤ z) (sym num) (low a) in
    record {
      low = omega (arith, signed, c.if-end-num.false, c.requires.den_low, c.requires.den_in, fits, above);
      high = omega (arith, signed, c.if-end-num.false, c.requires.den_low, c.requires.den_in, fits, above);
    }

pub round-requires-clause-result_in : goal.round-requires-clause-result_in
round-requires-clause-result_in c =
    let a = (goal.at.round-requires-clause-result_in c).After-checked_mul in
    let num : c.in-Some.num ≡ c.args.base *ℤ c.args.scale.num = c.in-Some.ensures.1 ∙ product a in
    let fits : FitsSigned w128 c.in-Some.num = subst (FitsSigned w128) (sym c.in-Some.ensures.1) c.in-Some.ensures.0 in
    let den_fits : FitsSigned w128 c.args.scale.den = search rules in
    let above : pos 0 ≤ℤ c.in-Some.num = subst (λ z. pos 0 ≤ℤ z) (sym num) (low a) in
    let small : c.in-Some.num <ℤ ((pos 2097153 *ℤ c.args.scale.den) -ℤ c.in-Some.num) =
    omega (arith, signed, c.if-end-num.false, c.requires.den_low, c.requires.den_in, fits, above) in
    let high = size_high c.in-Some.num c.args.scale.den c.requires.den_low small in
    let low = size_low c.in-Some.num c.args.scale.den c.requires.den_low above in
    simp to_z-of_z (record { low = omega (arith, signed, low); high = omega (arith, signed, high) })

pub returns-clause-value : goal.returns-clause-value
returns-clause-value c =
    let a = (goal.at.returns-clause-value c).After-checked_mul in
    let num : c.in-Some.num ≡ c.args.base *ℤ c.args.scale.num = c.in-Some.ensures.1 ∙ product a in
    let fits : FitsSigned w128 c.in-Some.num = subst (FitsSigned w128) (sym c.in-Some.ensures.1) c.in-Some.ensures.0 in
    let den_fits : FitsSigned w128 c.args.scale.den = search rules in
    let above : pos 0 ≤ℤ c.in-Some.num = subst (λ z. pos 0 ≤ℤ z) (sym num) (low a) in
    let small : c.in-Some.num <ℤ ((pos 2097153 *ℤ c.args.scale.den) -ℤ c.in-Some.num) =
    omega (arith, signed, c.if-end-num.false, c.requires.den_low, c.requires.den_in, fits, above) in
    let high = size_high c.in-Some.num c.args.scale.den c.requires.den_low small in
    let low = size_low c.in-Some.num c.args.scale.den c.requires.den_low above in
    let value : c.round.result ≡ rounded c.in-Some.num c.args.scale.den = simp to_z-of_z at c.round.ensures.value in
    let back : to_z w64 (of_z w64 c.round.result) ≡ rounded c.in-Some.num c.args.scale.den = omega (arith, signed, value, high, low) in
    ap Some back ∙ sym (in_reach c.in-Some.num c.args.scale.den high) ∙ ap (λ z. in_range_of (rounded z c.args.scale.den)) num

pub returns-clause-within : goal.returns-clause-within
returns-clause-within c =
    let a = (goal.at.returns-clause-within c).After-checked_mul in
    let num : c.in-Some.num ≡ c.args.base *ℤ c.args.scale.num = c.in-Some.ensures.1 ∙ product a in
    let fits : FitsSigned w128 c.in-Some.num = subst (FitsSigned w128) (sym c.in-Some.ensures.1) c.in-Some.ensures.0 in
    let den_fits : FitsSigned w128 c.args.scale.den = search rules in
    let above : pos 0 ≤ℤ c.in-Some.num = subst (λ z. pos 0 ≤ℤ z) (sym num) (low a) in
    let small : c.in-Some.num <ℤ ((pos 2097153 *ℤ c.args.scale.den) -ℤ c.in-Some.num) =
    omega (arith, signed, c.if-end-num.false, c.requires.den_low, c.requires.den_in, fits, above) in
    let high = size_high c.in-Some.num c.args.scale.den c.requires.den_low small in
    let low = size_low c.in-Some.num c.args.scale.den c.requires.den_low above in
    let value : c.round.result ≡ rounded c.in-Some.num c.args.scale.den = simp to_z-of_z at c.round.ensures.value in
    let back : to_z w64 (of_z w64 c.round.result) ≡ rounded c.in-Some.num c.args.scale.den = omega (arith, signed, value, high, low) in
    record { low = omega (arith, signed, back, low); high = omega (arith, signed, back, high) }
