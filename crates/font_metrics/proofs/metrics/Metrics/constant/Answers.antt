use Rattle.std.proofs.Common.{◌∙◌, ◌^◌, ap, sym, subst, lit<}
use Rattle.fixed_units.specs.Numbers.{IsWithin}
use Rattle.font_metrics.specs.Metrics.{scale_of, constant_of}
use Rattle.font_metrics.proofs.Scaling.{back64, within64, size_in}
use Rattle.font_metrics.proofs.metrics.Metrics.constant.Goals as goal

pub returns-clause-value : goal.returns-clause-value
unfolding constant_of
returns-clause-value c =
    let m = c.args.self.now in
    let value = back64 c.design_value.ensures.within (lit< tt) in
    let size = back64 (size_in c.args.size c.requires.size_low c.requires.size_high) (lit< tt) in
    back64 c.scale.ensures.within (lit< tt) ∙ c.scale.ensures.value ∙ (λ i. scale_of m (value i) (size i))
    ∙ ap (λ z. scale_of m z c.args.size) c.design_value.ensures.value

pub returns-clause-within : goal.returns-clause-within
returns-clause-within c =
    let value = back64 c.design_value.ensures.within (lit< tt) in
    within64 (c.scale.ensures.narrow (subst (IsWithin (2 ^ 16)) (sym value) c.design_value.ensures.within)) (lit< tt)
