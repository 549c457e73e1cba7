use Rattle.std.proofs.Common.{◌≡◌, ◌<◌, length, arith}
use Rattle.std.proofs.lemmas.Bool.Decides.{nat_tests}
use Rattle.outcome_cells.specs.Cells.{IsMarkHeld, mark_numbers}
use Rattle.outcome_cells.proofs.Left.{left_begins, left_end, left_is, left_next, left_smaller, marks_have_some}
use Rattle.outcome_cells.proofs.decode.read_marks.Goals as goal

pub first_mark-mark-requires : goal.first_mark-mark-requires
first_mark-mark-requires c =
    let some : 0 < length c.loop-rest.rest.now = grind (arith, nat_tests) in
    left_begins mark_numbers IsMarkHeld _ _ _ c.loop-rest.invariant some

pub loop-rest-smaller : goal.loop-rest-smaller
loop-rest-smaller c =
    let some : 0 < length c.loop-rest.rest.now = grind (arith, nat_tests) in
    left_smaller mark_numbers IsMarkHeld marks_have_some _ _ _ (left_begins mark_numbers IsMarkHeld _ _ _ c.loop-rest.invariant some) c.first_mark-mark.ensures

pub loop-rest-preserved : goal.loop-rest-preserved
loop-rest-preserved c =
    let some : 0 < length c.loop-rest.rest.now = grind (arith, nat_tests) in
    let pushed = c.in_ok-push.ensures {u = tt} in
    let more = left_next mark_numbers IsMarkHeld _ _ _ _ _ c.loop-rest.invariant some c.first_mark-mark.ensures in
    left_is mark_numbers IsMarkHeld _ _ _ _ pushed.ok more

pub returns : goal.returns
returns c =
    let none : length c.loop-rest.rest.now ≡ 0 = grind (arith, nat_tests) in
    left_end mark_numbers IsMarkHeld marks_have_some _ _ _ c.loop-rest.invariant none
