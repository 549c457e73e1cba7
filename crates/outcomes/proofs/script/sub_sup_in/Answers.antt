use Rattle.std.proofs.Common.{◌≡◌, ◌∙◌, w64, to_z, of_z}
use Rattle.layout_model.specs.Elements.{font, frame_at}
use Rattle.layout_model.specs.Equations.{has_large_base, sub_sup_corners}
use Rattle.outcomes.proofs.Cornered.{sub_sup_counts}
use Rattle.outcomes.proofs.FontSizes.{size_back}
use Rattle.outcomes.proofs.script.sub_sup_in.Goals as goal

pub returns : goal.returns
returns g c =
    let size : to_z w64 (of_z w64 c.size-size.result) ≡ font c.args.e.now =
    size_back c.size-size.result c.size-size.ensures.low c.size-size.ensures.high ∙ c.size-size.ensures.value in
    let metrics = c.metrics.ensures in
    let base = c.frame-base.ensures.value in
    let below = c.frame-below.ensures.value in
    let above = c.frame-above.ensures.value in
    let large = c.has_large_base-large.ensures in
    let context = c.context.ensures.value in
    let made = c.sub_sup.ensures in
    let e = c.args.e.now in
    let same = sub_sup_counts e.metrics (frame_at e 0) (has_large_base e) e.context.style.cramped (frame_at e 1) (frame_at e 2) c.in_ok-from.from (sub_sup_corners e) (font e) (c.in_ok-from.ensures {u = tt}).value in
    cc
