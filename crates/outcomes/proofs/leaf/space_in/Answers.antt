use Rattle.std.proofs.Common.{◌≡◌, ◌∙◌, ap, w64, to_z, of_z}
use Rattle.embellished.specs.Seen.{Seen}
use Rattle.layout_model.specs.Elements.{font}
use Rattle.outcomes.proofs.FontSizes.{size_back}
use Rattle.outcomes.proofs.leaf.space_in.Goals as goal

pub returns : goal.returns
returns g c =
    let e = c.args.e.now in
    let size : to_z w64 (of_z w64 c.size.result) ≡ font e =
    size_back c.size.result c.size.ensures.low c.size.ensures.high ∙ c.size.ensures.value in
    let metrics = c.metrics.ensures in
    let head : c.head.result.now ≡ e.seen.head = c.head.ensures ∙ ap (λ (s : Seen). s.head) c.view.ensures in
    let made = c.space.ensures in
    cc
