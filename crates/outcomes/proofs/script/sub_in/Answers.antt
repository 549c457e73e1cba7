use Rattle.std.proofs.Common.{◌≡◌, ◌∙◌, w64, to_z, of_z}
use Rattle.layout_model.specs.Elements.{font, frame_at}
use Rattle.layout_model.specs.Equations.{has_large_base, sub_corners}
use Rattle.outcomes.proofs.Cornered.{sub_counts}
use Rattle.outcomes.proofs.FontSizes.{size_back}
use Rattle.outcomes.proofs.script.sub_in.Goals as goal

pub returns : goal.returns
returns g c =
    let size : to_z w64 (of_z w64 c.size.result) ≡ font c.args.e.now =
    size_back c.size.result c.size.ensures.low c.size.ensures.high ∙ c.size.ensures.value in
    let metrics = c.metrics.ensures in
    let base = c.frame-base.ensures.value in
    let script = c.frame-script.ensures.value in
    let large = c.has_large_base-large.ensures in
    let made = c.sub.ensures in
    let e = c.args.e.now in
    let same = sub_counts e.metrics (frame_at e 0) (has_large_base e) (frame_at e 1) c.in_ok-from.from (sub_corners e) (font e) (c.in_ok-from.ensures {u = tt}).value in
    cc
