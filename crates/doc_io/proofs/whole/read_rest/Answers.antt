use Rattle.std.proofs.Common.{arith}
use Rattle.std.proofs.lemmas.Grind.{common_steps}
use Rattle.doc_io.proofs.Within.{some_both, within_end}
use Rattle.doc_io.proofs.whole.read_rest.Goals as goal

pub returns-in_err-expect_end-2-clause-within : goal.returns-in_err-expect_end-2-clause-within
returns-in_err-expect_end-2-clause-within g c =
    within_end _ _ _ _ _ _ _ c.loop-block.invariant.taken c.in_ok-count.ensures.bytes.0 c.expect_end-in-loop-block.ensures.ends.taken (grind (arith, common_steps))

pub returns-in_err-push_all-clause-within : goal.returns-in_err-push_all-clause-within
returns-in_err-push_all-clause-within g c =
    within_end _ _ _ _ _ _ _ c.loop-block.invariant.taken c.in_ok-count.ensures.bytes.0 c.expect_end-in-loop-block.ensures.ends.taken (grind (arith, common_steps))

pub returns-in_err-push_all-clause-memory : goal.returns-in_err-push_all-clause-memory
returns-in_err-push_all-clause-memory g c = λ _.
    let ended = (c.in_ok-expect_end-2.ensures {u = tt}).ends.ended in
    some_both _ _ _ _ _ _ _ c.loop-block.invariant.taken c.in_ok-count.ensures.bytes.0 ended.1 (grind (arith, common_steps)) (grind (arith, common_steps))
    (λ all. ended.0 (grind (arith, common_steps)))
