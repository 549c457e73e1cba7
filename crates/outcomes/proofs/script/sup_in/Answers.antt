use Rattle.std.proofs.Common.{◌≡◌, ◌∙◌, w64, to_z, of_z}
use Rattle.layout_model.specs.Elements.{font, frame_at}
use Rattle.layout_model.specs.Equations.{has_large_base, sup_corners}
use Rattle.outcomes.proofs.Cornered.{sup_counts}
use Rattle.outcomes.proofs.FontSizes.{size_back}
use Rattle.outcomes.proofs.script.sup_in.Goals as goal

pub returns : goal.returns
returns g c =
    let size : to_z w64 (of_z w64 c.size-size.result) ≡ font c.args.e.now =
    size_back c.size-size.result c.size-size.ensures.low c.size-size.ensures.high ∙ c.size-size.ensures.value in
    let metrics = c.metrics.ensures in
    let base = c.frame-base.ensures.value in
    let script = c.frame-script.ensures.value in
    let large = c.has_large_base-large.ensures in
    let context = c.context.ensures.value in
    let made = c.sup.ensures in
    let e = c.args.e.now in
    let same = sup_counts e.metrics (frame_at e 0) (has_large_base e) e.context.style.cramped (frame_at e 1) c.in_ok-from.from (sup_corners e) (font e) (c.in_ok-from.ensures {u = tt}).value in
    cc
