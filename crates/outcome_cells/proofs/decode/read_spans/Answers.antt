use Rattle.std.proofs.Common.{◌≡◌, ◌<◌, length, arith, rules}
use Rattle.std.proofs.lemmas.Bool.Decides.{nat_tests}
use Rattle.outcome_cells.specs.Cells.{IsSpanHeld, span_numbers}
use Rattle.outcome_cells.proofs.Left.{left_begins, left_end, left_is, left_next, left_smaller}
use Rattle.outcome_cells.proofs.decode.read_spans.Goals as goal

pub first_span-requires : goal.first_span-requires
first_span-requires c =
    let some : 0 < length c.loop-rest.rest.now = grind (arith, nat_tests) in
    left_begins span_numbers IsSpanHeld _ _ _ c.loop-rest.invariant some

pub loop-rest-smaller : goal.loop-rest-smaller
loop-rest-smaller c =
    let some : 0 < length c.loop-rest.rest.now = grind (arith, nat_tests) in
    left_smaller span_numbers IsSpanHeld (λ x. search rules) _ _ _ (left_begins span_numbers IsSpanHeld _ _ _ c.loop-rest.invariant some) c.first_span.ensures

pub loop-rest-preserved : goal.loop-rest-preserved
loop-rest-preserved c =
    let some : 0 < length c.loop-rest.rest.now = grind (arith, nat_tests) in
    let pushed = c.in_ok-push.ensures {u = tt} in
    let more = left_next span_numbers IsSpanHeld _ _ _ _ _ c.loop-rest.invariant some c.first_span.ensures in
    left_is span_numbers IsSpanHeld _ _ _ _ pushed.ok more

pub returns : goal.returns
returns c =
    let none : length c.loop-rest.rest.now ≡ 0 = grind (arith, nat_tests) in
    left_end span_numbers IsSpanHeld (λ x. search rules) _ _ _ c.loop-rest.invariant none
