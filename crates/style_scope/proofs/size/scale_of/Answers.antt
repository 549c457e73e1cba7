use Rattle.std.proofs.Common.{◌≡◌, ◌∙◌, ◌^◌, pos, ◌*ℤ◌, w64, to_z, of_z, arith, lit<}
use Rattle.std.proofs.lemmas.Int.{to_z-of_z}
use Rattle.fixed_units.proofs.Signed.{signed}
use Rattle.fixed_units.proofs.Within.{fits_i128}
use Rattle.style_scope.proofs.Scales.{below_is_scale, above_is_scale}
use Rattle.style_scope.proofs.size.scale_of.Goals as goal

pub returns-then-given-below : goal.returns-then-given-below
returns-then-given-below c =
    let num : to_z w64 (of_z w64 c.args.num) ≡ c.args.num = omega (arith, signed, c.requires.num_in) in
    let den : to_z w64 (of_z w64 c.args.den) ≡ c.args.den = omega (arith, signed, c.requires.den_in) in
    let levels = c.from-levels.ensures in
    let top = c.times_power.ensures in
    let bottom = c.times_power-then-given-below.ensures in
    let top_fits = fits_i128 top.within (lit< tt) in
    let bottom_fits = fits_i128 bottom.within (lit< tt) in
    simp to_z-of_z (below_is_scale c.args.num c.args.den c.args.below c.args.given _ _ c.requires.num_in c.requires.den_in c.if-given-below.true
    (top.value ∙ (λ i. num i *ℤ pos (71 ^ levels i))) (bottom.value ∙ (λ i. den i *ℤ pos (100 ^ levels i)))
    top.low top.within bottom.low bottom.within)

pub returns-else-given-below : goal.returns-else-given-below
returns-else-given-below c =
    let num : to_z w64 (of_z w64 c.args.num) ≡ c.args.num = omega (arith, signed, c.requires.num_in) in
    let den : to_z w64 (of_z w64 c.args.den) ≡ c.args.den = omega (arith, signed, c.requires.den_in) in
    let levels = c.from-levels-else-given-below.ensures in
    let top = c.times_power-else-given-below.ensures in
    let bottom = c.times_power-else-given-below-2.ensures in
    let top_fits = fits_i128 top.within (lit< tt) in
    let bottom_fits = fits_i128 bottom.within (lit< tt) in
    simp to_z-of_z (above_is_scale c.args.num c.args.den c.args.below c.args.given _ _ c.requires.num_in c.requires.den_in (let f = c.if-given-below.false in omega arith)
    (top.value ∙ (λ i. num i *ℤ pos (100 ^ levels i))) (bottom.value ∙ (λ i. den i *ℤ pos (71 ^ levels i)))
    top.low top.within bottom.low bottom.within)
