use Rattle.std.proofs.Common.{◌≡◌, ◌∙◌, ap, codes, List, w64, to_z, of_z}
use Rattle.math_tree.specs.declared.attributes.Attribute.{Attribute}
use Rattle.layout_model.specs.Contexts.{is_true}
use Rattle.layout_model.specs.Elements.{font}
use Rattle.outcomes.proofs.FontSizes.{size_back}
use Rattle.outcomes.proofs.limits.limits_in.Goals as goal

pub returns : goal.returns
returns g c =
    let size : to_z w64 (of_z w64 c.size.result) ≡ font c.args.e.now =
    size_back c.size.result c.size.ensures.low c.size.ensures.high ∙ c.size.ensures.value in
    let metrics = c.metrics.ensures in
    let base = c.frame.ensures.value in
    let case = c.limit_case.ensures in
    let accent = c.is_true.ensures ∙ ap (λ (a : List Attribute). is_true (codes "accent") a) c.attributes-attributes.ensures in
    let accentunder = c.is_true-2.ensures ∙ ap (λ (a : List Attribute). is_true (codes "accentunder") a) c.attributes-attributes.ensures in
    let made = c.under_over.ensures in
    cc
