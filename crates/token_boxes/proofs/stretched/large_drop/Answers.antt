use Rattle.std.proofs.Common.{◌≡◌, ◌∙◌, sym, ap, lit<, to_z, of_z, w64, ◌*ℤ◌, pos, cond}
use Rattle.fixed_units.proofs.Within.{product_in, natural_in}
use Rattle.font_metrics.specs.Metrics.{constant_of}
use Rattle.font_metrics.specs.declared.constants.ConstName.TheVariants.{AxisHeight}
use Rattle.font_metrics.proofs.Scaling.{back64, size_in}
use Rattle.token_boxes.specs.Operator.{large_drop, drop_of}
use Rattle.token_boxes.proofs.stretched.large_drop.Goals as goal

pub returns-then-symmetric-clause-value : goal.returns-then-symmetric-clause-value
unfolding large_drop
returns-then-symmetric-clause-value c =
    let m = c.args.metrics.now in
    let frame = c.args.frame.now in
    let size = back64 (size_in c.args.size c.requires.size_low c.requires.size_high) (lit< tt) in
    let axis_in = c.constant-axis_height.ensures.within in
    let axis = back64 axis_in (lit< tt) in
    let twice : to_z w64 (of_z w64 (pos 2 *ℤ to_z w64 (of_z w64 c.constant-axis_height.result))) ≡ pos 2 *ℤ constant_of m AxisHeight c.args.size =
    ap (λ z. to_z w64 (of_z w64 z)) (λ i. pos 2 *ℤ axis i) ∙ back64 (product_in (natural_in 2) axis_in) (lit< tt)
    ∙ ap (λ z. pos 2 *ℤ z) (c.constant-axis_height.ensures.value ∙ ap (constant_of m AxisHeight) size) in
    back64 c.drop.ensures.within (lit< tt) ∙ c.drop.ensures.value ∙ ap (drop_of frame) twice
    ∙ sym (ap (λ v. cond v (drop_of frame (pos 2 *ℤ constant_of m AxisHeight c.args.size)) (pos 0)) c.if-symmetric.true)

pub returns-else-symmetric-clause-value : goal.returns-else-symmetric-clause-value
unfolding large_drop
returns-else-symmetric-clause-value c =
    sym (ap (λ v. cond v (drop_of c.args.frame.now (pos 2 *ℤ constant_of c.args.metrics.now AxisHeight c.args.size)) (pos 0)) c.if-symmetric.false)
