use Rattle.std.proofs.Common.{◌≡◌, ◌∙◌, subst, w64, to_z, of_z}
use Rattle.std.specs.Prelude.{IfOk}
use Rattle.multiscripts.specs.Placing.{multi_of}
use Rattle.multiscripts.specs.declared.parts.Multi.{Multi}
use Rattle.layout_model.specs.Elements.{font, frame_at}
use Rattle.layout_model.specs.Equations.{has_large_base, pairs_of}
use Rattle.outcomes.proofs.FontSizes.{size_back}
use Rattle.outcomes.proofs.pairs.multi_in.Goals as goal

pub returns : goal.returns
returns g c =
    let e = c.args.e.now in
    let size : to_z w64 (of_z w64 c.size.result) ≡ font e =
    size_back c.size.result c.size.ensures.low c.size.ensures.high ∙ c.size.ensures.value in
    let metrics = c.metrics.ensures in
    let base = c.frame-base.ensures.value in
    let large = c.has_large_base-large.ensures in
    let context = c.context.ensures.value in
    let pairs = (c.in_ok-pairs.ensures {u = tt}).value in
    let same : multi_of c.metrics.result.now c.frame-base.result c.has_large_base-large.result c.context.result.now.style.cramped
    c.in_ok-pairs.pairs (to_z w64 (of_z w64 c.size.result))
    ≡ multi_of e.metrics (frame_at e 0) (has_large_base e) e.context.style.cramped (pairs_of e) (font e) = cc in
    subst (λ (multi : Multi). IfOk c.multi.result (λ made. made ≡ multi)) same c.multi.ensures
