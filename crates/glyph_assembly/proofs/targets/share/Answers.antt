use Rattle.std.proofs.Common.{◌≡◌, ◌∙◌, ap, sym, subst, lit<, lit≤, to_z, of_z, w64, ◌*ℤ◌, pos, ◌<ℤ◌, ◌*◌, ◌^◌, arith}
use Rattle.std.proofs.lemmas.Int.{to_z-of_z}
use Rattle.std.specs.Int.{w128}
use Rattle.fixed_units.specs.Numbers.{IsWithin, rounded}
use Rattle.fixed_units.proofs.Within.{product_in, rounded_in, widened, fits_i64}
use Rattle.font_metrics.proofs.Scaling.{back64, back128}
use Rattle.glyph_assembly.proofs.targets.share.Goals as goal
use Rattle.glyph_assembly.proofs.targets.share.Goals.{After-from-2}

num_is : (c : After-from-2) → to_z w128 (of_z w128 c.from.result) ≡ c.args.part *ℤ c.args.size
num_is c =
    let product = product_in c.requires.part_in c.requires.size_in in
    let parts : to_z w64 (of_z w64 c.args.part) *ℤ to_z w64 (of_z w64 c.args.size) ≡ c.args.part *ℤ c.args.size =
    λ i. back64 c.requires.part_in (lit< tt) i *ℤ back64 c.requires.size_in (lit< tt) i in
    ap (λ z. to_z w128 (of_z w128 z)) (c.from.ensures ∙ ap (λ z. to_z w64 (of_z w64 z)) parts ∙ back64 product (lit< tt)) ∙ back128 product (lit< tt)

den_is : (c : After-from-2) → to_z w128 (of_z w128 c.from-2.result) ≡ c.args.total
den_is c =
    ap (λ z. to_z w128 (of_z w128 z)) (c.from-2.ensures ∙ back64 c.requires.total_in (lit< tt)) ∙ back128 c.requires.total_in (lit< tt)

within : (c : After-from-2) → IsWithin (13 * 2 ^ 30 * 2 ^ 28) (rounded (c.args.part *ℤ c.args.size) c.args.total)
within c = rounded_in c.args.total c.requires.total (product_in c.requires.part_in c.requires.size_in)

pub overflow_mul-part : goal.overflow_mul-part
overflow_mul-part c =
    let f = fits_i64 c.requires.part_in (lit< tt) in
    let g = fits_i64 c.requires.size_in (lit< tt) in
    let h = fits_i64 (product_in c.requires.part_in c.requires.size_in) (lit< tt) in
    grind (arith, to_z-of_z)

pub round-requires-clause-positive : goal.round-requires-clause-positive
round-requires-clause-positive c =
    subst (λ z. pos 0 <ℤ z) (sym (den_is (goal.at.round-requires-clause-positive c).After-from-2)) c.requires.total

pub round-requires-clause-num_in : goal.round-requires-clause-num_in
round-requires-clause-num_in c =
    subst (IsWithin (2 ^ 126)) (sym (num_is (goal.at.round-requires-clause-num_in c).After-from-2))
    (widened (2 ^ 126) (product_in c.requires.part_in c.requires.size_in) (lit≤ tt))

pub round-requires-clause-result_in : goal.round-requires-clause-result_in
round-requires-clause-result_in c =
    let at = (goal.at.round-requires-clause-result_in c).After-from-2 in
    subst (IsWithin (2 ^ 62)) (λ i. rounded (sym (num_is at) i) (sym (den_is at) i)) (widened (2 ^ 62) (within at) (lit≤ tt))

pub returns : goal.returns
returns c =
    let at = (goal.at.returns c).After-from-2 in
    ap (λ z. to_z w64 (of_z w64 z)) (c.round.ensures.value ∙ (λ i. rounded (num_is at i) (den_is at i)))
    ∙ back64 (within at) (lit< tt)
