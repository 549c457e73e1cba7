use Rattle.std.proofs.Common.{◌≡◌, ◌∙◌, ap, lit<, to_z, of_z, w64, to_z-of_z, ℤ, ℕ, pos, slice_index_or}
use Rattle.font_metrics.specs.Metrics.{kern_value, reached_of, scale_of, values_of}
use Rattle.font_metrics.proofs.Scaling.{back32, back64}
use Rattle.font_metrics.proofs.metrics.Metrics.kern_value.Goals as goal

pub returns-clause-value : goal.returns-clause-value
unfolding kern_value
returns-clause-value c =
    let m = c.args.self.now in
    let kern = c.args.kern.now in
    let height = to_z-of_z c.ranges.height in
    let size = to_z-of_z c.ranges.size in
    let place : c.reached-place.result ≡ reached_of m kern.steps c.args.height c.args.size =
    c.reached-place.ensures.value ∙ (λ i. reached_of m (c.as_slice.ensures i) (height i) (size i)) in
    let value : to_z w64 (of_z w64 c.from.result) ≡ slice_index_or (values_of kern) (reached_of m kern.steps c.args.height c.args.size) (pos 0) =
    ap (λ (z : ℤ). to_z w64 (of_z w64 z)) (c.from.ensures ∙ back32 c.value_at.ensures.within)
    ∙ back64 c.value_at.ensures.within (lit< tt) ∙ c.value_at.ensures.value
    ∙ ap (λ (n : ℕ). slice_index_or (values_of kern) n (pos 0)) place in
    back64 c.scale.ensures.within (lit< tt) ∙ c.scale.ensures.value ∙ (λ i. scale_of m (value i) (size i))
