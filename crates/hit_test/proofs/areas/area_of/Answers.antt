use Rattle.std.proofs.Common.{rules, ◌≡◌, ◌∙◌, w64, to_z, of_z, lit<, ◌+ℤ◌, ◌-ℤ◌}
use Rattle.fixed_units.proofs.Within.{difference_in, sum_in}
use Rattle.font_metrics.proofs.Scaling.{back64}
use Rattle.hit_test.proofs.areas.area_of.Goals as goal

pub returns : goal.returns
returns c =
    let box = c.args.placed.now in
    let is = c.requires.frame in
    let x : to_z w64 (of_z w64 box.x) ≡ box.x = search rules in
    let down : to_z w64 (of_z w64 box.y) ≡ box.y = back64 c.requires.down (lit< tt) in
    let width : to_z w64 (of_z w64 box.frame.width) ≡ box.frame.width = back64 is.width (lit< tt) in
    let ascent : to_z w64 (of_z w64 box.frame.ascent) ≡ box.frame.ascent = back64 is.ascent (lit< tt) in
    let descent : to_z w64 (of_z w64 box.frame.descent) ≡ box.frame.descent = back64 is.descent (lit< tt) in
    let y : to_z w64 (of_z w64 (to_z w64 (of_z w64 box.y) -ℤ to_z w64 (of_z w64 box.frame.ascent))) ≡ box.y -ℤ box.frame.ascent =
    (λ i. to_z w64 (of_z w64 (down i -ℤ ascent i))) ∙ back64 (difference_in c.requires.down is.ascent) (lit< tt) in
    let height : to_z w64 (of_z w64 (to_z w64 (of_z w64 box.frame.ascent) +ℤ to_z w64 (of_z w64 box.frame.descent))) ≡ box.frame.ascent +ℤ box.frame.descent =
    (λ i. to_z w64 (of_z w64 (ascent i +ℤ descent i))) ∙ back64 (sum_in is.ascent is.descent) (lit< tt) in
    λ i. record { x = x i; y = y i; width = width i; height = height i }
