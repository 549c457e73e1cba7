use Rattle.std.proofs.Common.{◌≡◌, ◌∙◌, ap, sym, subst, lit<, lit≤, to_z, of_z, w64, ◌*ℤ◌, pos, ◌^◌}
use Rattle.std.specs.Int.{w128}
use Rattle.fixed_units.specs.Numbers.{IsWithin, rounded}
use Rattle.fixed_units.proofs.Within.{product_in, widened}
use Rattle.font_metrics.proofs.Scaling.{back64, back128}
use Rattle.radicals.specs.Equation.{share_of}
use Rattle.radicals.proofs.Bounds.{share_in}
use Rattle.radicals.proofs.equation.share.Goals as goal
use Rattle.radicals.proofs.equation.share.Goals.{After-from-2}

num_is : (c : After-from-2) → to_z w128 (of_z w128 (to_z w128 (of_z w128 c.from.result) *ℤ to_z w128 (of_z w128 c.from-2.result))) ≡ c.args.percent *ℤ c.args.length
num_is c =
    let percent = c.requires.percent_in in
    let length = c.requires.length_in in
    let p = ap (λ z. to_z w128 (of_z w128 z)) (c.from.ensures ∙ back64 percent (lit< tt)) ∙ back128 percent (lit< tt) in
    let l = ap (λ z. to_z w128 (of_z w128 z)) (c.from-2.ensures ∙ back64 length (lit< tt)) ∙ back128 length (lit< tt) in
    ap (λ z. to_z w128 (of_z w128 z)) (λ i. p i *ℤ l i) ∙ back128 (product_in percent length) (lit< tt)

pub round-requires-clause-num_in : goal.round-requires-clause-num_in
round-requires-clause-num_in c =
    subst (IsWithin (2 ^ 126)) (sym (num_is (goal.at.round-requires-clause-num_in c).After-from-2))
    (widened (2 ^ 126) (product_in c.requires.percent_in c.requires.length_in) (lit≤ tt))

pub round-requires-clause-result_in : goal.round-requires-clause-result_in
unfolding share_of
round-requires-clause-result_in c =
    subst (λ z. IsWithin (2 ^ 62) (rounded z (pos 100))) (sym (num_is (goal.at.round-requires-clause-result_in c).After-from-2))
    (widened (2 ^ 62) (share_in c.args.percent c.args.length c.requires.percent_in c.requires.length_in) (lit≤ tt))

pub returns : goal.returns
unfolding share_of
returns c =
    ap (λ z. to_z w64 (of_z w64 z)) (c.round.ensures.value ∙ ap (λ z. rounded z (pos 100)) (num_is (goal.at.returns c).After-from-2))
    ∙ back64 (share_in c.args.percent c.args.length c.requires.percent_in c.requires.length_in) (lit< tt)
