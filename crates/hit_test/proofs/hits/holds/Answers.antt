use Rattle.std.proofs.Common.{◌≡◌, ◌∙◌, rules, w64, to_z, of_z, ◌+ℤ◌, ◌-ℤ◌, ◌&&◌}
use Rattle.hit_test.specs.Hits.{holds, lies_between}
use Rattle.hit_test.proofs.hits.holds.Goals as goal

pub returns : goal.returns
unfolding holds
returns c =
    let box = c.args.placed.now in
    let px : to_z w64 (of_z w64 c.args.x) ≡ c.args.x = search rules in
    let py : to_z w64 (of_z w64 c.args.y) ≡ c.args.y = search rules in
    let x : to_z w64 (of_z w64 box.x) ≡ box.x = search rules in
    let y : to_z w64 (of_z w64 box.y) ≡ box.y = search rules in
    let width : to_z w64 (of_z w64 box.frame.width) ≡ box.frame.width = search rules in
    let ascent : to_z w64 (of_z w64 box.frame.ascent) ≡ box.frame.ascent = search rules in
    let descent : to_z w64 (of_z w64 box.frame.descent) ≡ box.frame.descent = search rules in
    let across : c.is_across.result ≡ lies_between c.args.x box.x (box.x +ℤ box.frame.width) =
    c.is_across.ensures ∙ (λ i. lies_between (px i) (x i) (x i +ℤ width i)) in
    let along : c.is_along.result ≡ lies_between c.args.y (box.y -ℤ box.frame.ascent) (box.y +ℤ box.frame.descent) =
    c.is_along.ensures ∙ (λ i. lies_between (py i) (y i -ℤ ascent i) (y i +ℤ descent i)) in
    λ i. across i && along i
