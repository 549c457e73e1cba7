use Rattle.std.proofs.Common.{◌≡◌, ◌∙◌, subst, lit<, to_z, of_z, w64}
use Rattle.std.specs.Result.{IfOk}
use Rattle.font_metrics.proofs.Scaling.{back64, size_in}
use Rattle.layout_model.specs.Elements.{font, row_in}
use Rattle.layout_model.specs.Equations.{root_sign_over}
use Rattle.radicals.specs.Placing.{square_root_of}
use Rattle.radicals.specs.declared.parts.Radical.{Radical}
use Rattle.outcomes.specs.Outcomes.{IsOutcome}
use Rattle.outcomes.proofs.row.square_root_outcome.Goals as goal

pub with_root_sign-requires-clause-root : goal.with_root_sign-requires-clause-root
with_root_sign-requires-clause-root g c =
    let size : to_z w64 (of_z w64 c.size.result) ≡ font c.args.e.now =
    back64 (size_in c.size.result c.size.ensures.low c.size.ensures.high) (lit< tt) ∙ c.size.ensures.value in
    c.square_root-root.ensures.value ∙ (λ i. square_root_of (c.metrics.ensures i) c.in_ok-row.row.frame (c.context.ensures.value i).style.display (size i))

pub returns : goal.returns
returns g c =
    let e = c.args.e.now in
    let row : c.in_ok-row.row ≡ row_in e = (c.in_ok-row.ensures {u = tt}).value in
    let size : to_z w64 (of_z w64 c.size.result) ≡ font e =
    back64 (size_in c.size.result c.size.ensures.low c.size.ensures.high) (lit< tt) ∙ c.size.ensures.value in
    let root : c.square_root-root.result ≡ square_root_of e.metrics (row_in e).frame e.context.style.display (font e) =
    c.square_root-root.ensures.value ∙ (λ i. square_root_of (c.metrics.ensures i) (row i).frame (c.context.ensures.value i).style.display (size i)) in
    subst (λ (r : Radical). IfOk c.with_root_sign.result (IsOutcome (root_sign_over e r))) root c.with_root_sign.ensures
