use Rattle.std.proofs.Common.{◌≡◌, ◌∙◌, ap, ◌<◌, ◌++◌, length, arith, lit<, w64, to_z, of_z, ℤ}
use Rattle.std.proofs.lemmas.Bool.Decides.{nat_tests}
use Rattle.font_metrics.proofs.Scaling.{back64}
use Rattle.placement.specs.Placing.{marks_at}
use Rattle.placement.proofs.Lent.{mark_begins, mark_more, mark_within, marks_all, marks_smaller, no_mark}
use Rattle.placement.proofs.kept.place_kept_marks.Goals as goal

pub loop-rest-init : goal.loop-rest-init
loop-rest-init c = no_mark _ _ c.args.cells.now c.args.items.now c.requires.stored

pub first_mark-mark-requires : goal.first_mark-mark-requires
first_mark-mark-requires c =
    let some : 0 < length c.loop-rest.rest.now = grind (arith, nat_tests) in
    mark_begins _ _ _ _ _ _ c.loop-rest.invariant some

pub add_mark-requires-clause-mark_x : goal.add_mark-requires-clause-mark_x
add_mark-requires-clause-mark_x c =
    let some : 0 < length c.loop-rest.rest.now = grind (arith, nat_tests) in
    (mark_within _ _ _ _ _ _ c.loop-rest.invariant some _ _ c.first_mark-mark.ensures).right

pub add_mark-requires-clause-mark_y : goal.add_mark-requires-clause-mark_y
add_mark-requires-clause-mark_y c =
    let some : 0 < length c.loop-rest.rest.now = grind (arith, nat_tests) in
    (mark_within _ _ _ _ _ _ c.loop-rest.invariant some _ _ c.first_mark-mark.ensures).down

pub loop-rest-smaller : goal.loop-rest-smaller
loop-rest-smaller c =
    let some : 0 < length c.loop-rest.rest.now = grind (arith, nat_tests) in
    marks_smaller _ _ _ _ _ _ c.loop-rest.invariant some _ _ c.first_mark-mark.ensures

pub loop-rest-preserved : goal.loop-rest-preserved
loop-rest-preserved c =
    let some : 0 < length c.loop-rest.rest.now = grind (arith, nat_tests) in
    mark_more _ _ _ _ _ _ c.loop-rest.invariant some _ _ c.first_mark-mark.ensures _ (c.in_ok-add_mark.ensures {u = tt}).ok

pub returns : goal.returns
returns c =
    let none : length c.loop-rest.rest.now ≡ 0 = grind (arith, nat_tests) in
    λ marks is.
    let x = to_z w64 (of_z w64 c.args.x) in
    let y = to_z w64 (of_z w64 c.args.y) in
    marks_all x y _ _ _ _ c.loop-rest.invariant none marks is
    ∙ ap (λ (z : ℤ). c.args.items.now ++ marks_at z y marks) (back64 c.requires.right (lit< tt))
    ∙ ap (λ (z : ℤ). c.args.items.now ++ marks_at c.args.x z marks) (back64 c.requires.down (lit< tt))
