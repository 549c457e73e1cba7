use Rattle.std.proofs.Common.{◌≡◌, ◌∙◌, subst, w64, to_z, of_z, lit<}
use Rattle.std.specs.Prelude.{IfOk}
use Rattle.std.proofs.lemmas.Int.{to_z-of_z}
use Rattle.fixed_units.proofs.Within.{fits_i64}
use Rattle.fractions.specs.Placing.{fraction_of}
use Rattle.fractions.specs.declared.parts.Fraction.{Fraction}
use Rattle.layout_model.specs.Elements.{font, frame_at}
use Rattle.layout_model.specs.Equations.{over_and_under, thickness_of}
use Rattle.outcomes.proofs.FontSizes.{size_back}
use Rattle.outcomes.proofs.fraction.fraction_outcome.Goals as goal

pub returns : goal.returns
returns g c =
    let e = c.args.e.now in
    let size : to_z w64 (of_z w64 c.size.result) ≡ font e =
    size_back c.size.result c.size.ensures.low c.size.ensures.high ∙ c.size.ensures.value in
    let thickness : to_z w64 (of_z w64 c.thickness.result) ≡ thickness_of e =
    to_z-of_z w64 c.thickness.result (fits_i64 c.thickness.ensures.within (lit< tt)) ∙ c.thickness.ensures.value in
    let metrics = c.metrics.ensures in
    let top = c.frame-top.ensures.value in
    let bottom = c.frame-bottom.ensures.value in
    let context = c.context.ensures.value in
    let made = c.fraction-whole.ensures in
    let same : c.fraction-whole.result ≡ fraction_of e.metrics (frame_at e 0) (frame_at e 1) (thickness_of e) e.context.style.display (font e) = cc in
    subst (λ (f : Fraction). IfOk c.over_and_under.result (λ outcome. outcome ≡ over_and_under e f)) same c.over_and_under.ensures
