use Rattle.std.proofs.Common.{◌≡◌, ◌∙◌, ap, sym, subst, lit<, lit≤, to_z, of_z, w64, ◌*ℤ◌, pos, ◌*◌, ◌^◌, arith}
use Rattle.std.specs.Int.{w128}
use Rattle.fixed_units.specs.Numbers.{IsWithin, rounded}
use Rattle.fixed_units.proofs.Signed.{signed}
use Rattle.fixed_units.proofs.Within.{product_in, rounded_in, widened}
use Rattle.font_metrics.proofs.Scaling.{back64, back128, size_in}
use Rattle.token_boxes.specs.Operator.{eighteenths}
use Rattle.token_boxes.proofs.sizes.eighteenths.Goals as goal
use Rattle.token_boxes.proofs.sizes.eighteenths.Goals.{After-from-2}

count_in : (c : After-from-2) → IsWithin (2 ^ 8) (pos c.args.count)
count_in c = let f = c.ranges.count.fits in record { low = omega (arith, signed, f); high = omega (arith, signed, f) }

product : (c : After-from-2) → IsWithin (2 ^ 8 * 2 ^ 20) (pos c.args.count *ℤ c.args.size)
product c = product_in (count_in c) (size_in c.args.size c.requires.size_low c.requires.size_high)

num_is : (c : After-from-2) → to_z w128 (of_z w128 c.from-2.result) ≡ pos c.args.count *ℤ c.args.size
num_is c =
    let count : to_z w64 (of_z w64 c.from.result) ≡ pos c.args.count =
    ap (λ z. to_z w64 (of_z w64 z)) c.from.ensures ∙ back64 (count_in c) (lit< tt) in
    let size = back64 (size_in c.args.size c.requires.size_low c.requires.size_high) (lit< tt) in
    let parts : to_z w64 (of_z w64 c.from.result) *ℤ to_z w64 (of_z w64 c.args.size) ≡ pos c.args.count *ℤ c.args.size =
    λ i. count i *ℤ size i in
    ap (λ z. to_z w128 (of_z w128 z)) (c.from-2.ensures ∙ ap (λ z. to_z w64 (of_z w64 z)) parts ∙ back64 (product c) (lit< tt))
    ∙ back128 (product c) (lit< tt)

within : (c : After-from-2) → IsWithin (2 ^ 8 * 2 ^ 20) (rounded (pos c.args.count *ℤ c.args.size) (pos 18))
within c = rounded_in (pos 18) (omega (arith, signed)) (product c)

pub round-requires-clause-result_in : goal.round-requires-clause-result_in
round-requires-clause-result_in c =
    let at = (goal.at.round-requires-clause-result_in c).After-from-2 in
    subst (IsWithin (2 ^ 62)) (λ i. rounded (sym (num_is at) i) (pos 18)) (widened (2 ^ 62) (within at) (lit≤ tt))

pub returns-clause-value : goal.returns-clause-value
unfolding eighteenths
returns-clause-value c =
    let at = (goal.at.returns-clause-value c).After-from-2 in
    ap (λ z. to_z w64 (of_z w64 z)) (c.round.ensures.value ∙ (λ i. rounded (num_is at i) (pos 18)))
    ∙ back64 (within at) (lit< tt)

pub returns-clause-within : goal.returns-clause-within
unfolding eighteenths
returns-clause-within c =
    let at = (goal.at.returns-clause-within c).After-from-2 in
    subst (IsWithin (2 ^ 28)) (sym (returns-clause-value c)) (within at)
