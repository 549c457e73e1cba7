use Rattle.std.proofs.Common.{rules, w64, FitsSigned, ◌≡◌, ◌∙◌, sym, ap, ◌*ℤ◌, arith}
use Rattle.std.specs.Int.{w128}
use Rattle.std.proofs.lemmas.Int.{to_z-of_z}
use Rattle.fixed_units.proofs.Products.{*ℤ-*ℤ}
use Rattle.fixed_units.proofs.Signed.{signed}
use Rattle.style_scope.specs.Sizes.{font_size_of, in_range_of, size_of, scale_at}
use Rattle.style_scope.proofs.Scales.{same_ratio}
use Rattle.style_scope.proofs.size.font_size.Goals as goal

pub returns-clause-value : goal.returns-clause-value
unfolding size_of font_size_of
returns-clause-value c =
    let style = c.args.style.now in
    let at = scale_at c.args.metrics.now style.depth in
    let given = scale_at c.args.metrics.now style.base_depth in
    let scale = c.scale_between.result in
    let is = c.scale_between.ensures in
    let tops : (style.base *ℤ scale.num) *ℤ (at.den *ℤ given.num) ≡ (style.base *ℤ (at.num *ℤ given.den)) *ℤ scale.den =
    *ℤ-*ℤ style.base scale.num (at.den *ℤ given.num) ∙ ap (λ z. style.base *ℤ z) is.same ∙ sym (*ℤ-*ℤ style.base (at.num *ℤ given.den) scale.den) in
    let same = same_ratio (style.base *ℤ scale.num) scale.den (style.base *ℤ (at.num *ℤ given.den)) (at.den *ℤ given.num) (omega (arith, signed, is.den_low)) (omega (arith, signed, is.given_low)) tops in
    let base_fits : FitsSigned w64 style.base = search rules in
    let num_fits : FitsSigned w128 scale.num = search rules in
    let den_fits : FitsSigned w128 scale.den = search rules in
    let value = simp to_z-of_z at c.scaled.ensures.value in
    value ∙ ap in_range_of same
