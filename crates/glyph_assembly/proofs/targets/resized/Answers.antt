use Rattle.std.proofs.Common.{◌≡◌, ◌∙◌, ap, sym, subst, lit<, ◌+◌, ◌*◌, ◌^◌, ◌*ℤ◌, ◌-ℤ◌, ◌+ℤ◌, ℤ, pos, to_z, of_z, w64, FitsSigned}
use Rattle.std.specs.Int.{int_max}
use Rattle.fixed_units.specs.Numbers.{IsWithin, rounded}
use Rattle.fixed_units.proofs.Within.{sum_in, difference_in, product_in, rounded_in, max_in, natural_in, fits_i64}
use Rattle.font_metrics.proofs.Scaling.{back64}
use Rattle.glyph_assembly.specs.Targets.{Span, resized, total}
use Rattle.glyph_assembly.proofs.targets.resized.Goals as goal
use Rattle.glyph_assembly.proofs.targets.resized.Goals.{After-share-above, After-max-ascent}

-- a number that went to bits and is read again
abbrev back : ℤ → ℤ
back z = to_z w64 (of_z w64 z)

abbrev share : Span → ℤ → ℤ → ℤ
share span size axis = rounded ((span.0 -ℤ axis) *ℤ size) (total span)

share_in : (c : After-share-above) → IsWithin (13 * 2 ^ 30 * 2 ^ 28) (share c.args.span c.args.size c.args.axis)
share_in c = rounded_in (total c.args.span) c.requires.total (product_in (difference_in c.requires.ascent_in c.requires.axis_in) c.requires.size_in)

share_is : (c : After-share-above) → back c.share-above.result ≡ share c.args.span c.args.size c.args.axis
share_is c =
    let ascent = back64 c.requires.ascent_in (lit< tt) in
    let descent = back64 c.requires.descent_in (lit< tt) in
    let axis = back64 c.requires.axis_in (lit< tt) in
    let size = back64 c.requires.size_in (lit< tt) in
    let part = ap back (λ i. ascent i -ℤ axis i) ∙ back64 (difference_in c.requires.ascent_in c.requires.axis_in) (lit< tt) in
    let all = ap back (λ i. ascent i +ℤ descent i) ∙ back64 (sum_in c.requires.ascent_in c.requires.descent_in) (lit< tt) in
    ap back (c.share-above.ensures ∙ (λ i. rounded (part i *ℤ size i) (all i))) ∙ back64 (share_in c) (lit< tt)

sum_is : (c : After-share-above) → back c.share-above.result +ℤ back c.args.axis ≡ share c.args.span c.args.size c.args.axis +ℤ c.args.axis
sum_is c = λ i. share_is c i +ℤ back64 c.requires.axis_in (lit< tt) i

ascent_is : (c : After-max-ascent) → back c.max-ascent.result ≡ int_max (share c.args.span c.args.size c.args.axis +ℤ c.args.axis) (pos 0)
ascent_is c =
    let at = (goal.at.After-max-ascent c).After-share-above in
    let sum = sum_in (share_in at) c.requires.axis_in in
    ap back (c.max-ascent.ensures.value ∙ ap (λ z. int_max z (pos 0)) (ap back (sum_is at) ∙ back64 sum (lit< tt)))
    ∙ back64 (max_in sum (natural_in 0)) (lit< tt)

depth_is : (c : After-max-ascent) → back c.args.size -ℤ back c.max-ascent.result ≡ c.args.size -ℤ int_max (share c.args.span c.args.size c.args.axis +ℤ c.args.axis) (pos 0)
depth_is c = λ i. back64 c.requires.size_in (lit< tt) i -ℤ ascent_is c i

depth_in : (c : After-max-ascent) → IsWithin (2 ^ 28 + (13 * 2 ^ 30 * 2 ^ 28 + 2 ^ 32)) (c.args.size -ℤ int_max (share c.args.span c.args.size c.args.axis +ℤ c.args.axis) (pos 0))
depth_in c =
    let at = (goal.at.After-max-ascent c).After-share-above in
    difference_in c.requires.size_in (max_in (sum_in (share_in at) c.requires.axis_in) (natural_in 0))

pub overflow_add-above : goal.overflow_add-above
overflow_add-above c =
    let at = (goal.at.overflow_add-above c).After-share-above in
    subst (FitsSigned w64) (sym (sum_is at)) (fits_i64 (sum_in (share_in at) c.requires.axis_in) (lit< tt))

pub overflow_sub-result : goal.overflow_sub-result
overflow_sub-result c =
    let at = (goal.at.overflow_sub-result c).After-max-ascent in
    subst (FitsSigned w64) (sym (depth_is at)) (fits_i64 (depth_in at) (lit< tt))

pub returns : goal.returns
unfolding resized
returns c =
    let at = (goal.at.returns c).After-max-ascent in
    λ i. (ascent_is at i, (ap back (depth_is at) ∙ back64 (depth_in at) (lit< tt)) i)
