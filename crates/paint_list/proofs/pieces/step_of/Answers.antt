use Rattle.std.proofs.Common.{◌≡◌, ◌∙◌, sym, ap, subst, ◌^◌, ◌-ℤ◌, w64, to_z, of_z, lit<, arith}
use Rattle.fixed_units.specs.Numbers.{IsWithin}
use Rattle.fixed_units.proofs.Within.{difference_in, widened}
use Rattle.font_metrics.proofs.Bounds.{length_within}
use Rattle.font_metrics.proofs.Scaling.{back64, size_in}
use Rattle.font_metrics.specs.Metrics.{scale_of}
use Rattle.paint_list.specs.Pieces.{step_of}
use Rattle.paint_list.proofs.pieces.step_of.Goals as goal

pub returns-clause-value : goal.returns-clause-value
unfolding step_of
returns-clause-value c =
    let m = c.args.metrics.now in
    let built = c.args.built.now in
    let full_in = length_within c.args.part.now.full c.requires.part.full in
    let full : to_z w64 (of_z w64 c.args.part.now.full) ≡ c.args.part.now.full = back64 full_in (lit< tt) in
    let size : to_z w64 (of_z w64 built.size) ≡ built.size = back64 (size_in built.size c.requires.built.size_low c.requires.built.size_high) (lit< tt) in
    let overlap : to_z w64 (of_z w64 built.overlap) ≡ built.overlap = back64 c.requires.built.overlap (lit< tt) in
    let near : IsWithin (2 ^ 32) c.scale.result = c.scale.ensures.narrow (subst (IsWithin (2 ^ 16)) (sym full) full_in) in
    let scaled : to_z w64 (of_z w64 c.scale.result) ≡ c.scale.result = back64 near (lit< tt) in
    let value : c.scale.result ≡ scale_of m c.args.part.now.full built.size = c.scale.ensures.value ∙ (λ i. scale_of m (full i) (size i)) in
    (λ i. to_z w64 (of_z w64 (scaled i -ℤ overlap i))) ∙ back64 (difference_in near c.requires.built.overlap) (lit< tt)
    ∙ ap (λ z. z -ℤ built.overlap) value

pub returns-clause-near : goal.returns-clause-near
returns-clause-near c =
    let built = c.args.built.now in
    let full_in = length_within c.args.part.now.full c.requires.part.full in
    let full : to_z w64 (of_z w64 c.args.part.now.full) ≡ c.args.part.now.full = back64 full_in (lit< tt) in
    let overlap : to_z w64 (of_z w64 built.overlap) ≡ built.overlap = back64 c.requires.built.overlap (lit< tt) in
    let near : IsWithin (2 ^ 32) c.scale.result = c.scale.ensures.narrow (subst (IsWithin (2 ^ 16)) (sym full) full_in) in
    let scaled : to_z w64 (of_z w64 c.scale.result) ≡ c.scale.result = back64 near (lit< tt) in
    let both = difference_in near c.requires.built.overlap in
    let back = (λ i. to_z w64 (of_z w64 (scaled i -ℤ overlap i))) ∙ back64 both (lit< tt) in
    subst (IsWithin (2 ^ 34)) (sym back) (widened (2 ^ 34) both (omega arith))
