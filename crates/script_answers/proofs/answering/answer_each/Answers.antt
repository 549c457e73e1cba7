use Rattle.std.proofs.Common.{◌≡◌, ap, true, false, rules, tests}
use Rattle.std.specs.Prelude.{Ok}
use Rattle.script_answers.proofs.Reading.{goes_no_further, goes_on, goes_wrong_as, stands_first}
use Rattle.script_answers.proofs.StepsTaken.{takes_last, takes_no_more, takes_on, took_none}
use Rattle.script_answers.proofs.answering.answer_each.Goals as goal

pub loop-init : goal.loop-init
loop-init g c = (stands_first g.A.Respond.responder _ _ _ _, took_none g.A.Respond.responder g.A.Respond.takes _ _ _ _)

pub loop-preserved : goal.loop-preserved
loop-preserved g c =
    let there : c.in_ok-answer_next.field-0 ≡ true = search (rules, tests) in
    let next = c.in_ok-answer_next.ensures in
    let line = next.answers.line (ap Ok there) in (
      goes_on g.A.Respond.responder _ _ _ _ _ _ _ _ _ _ _ _ c.loop.invariant.0 _ there next.answers,
      takes_on g.A.Respond.responder g.A.Respond.takes _ _ _ _ _ _ _ _ _ _ _ _ c.loop.invariant.1 _ (ap Ok there) line.2 line.0 next.taken,
    )

pub returns-in_err-answer_next-clause-answers : goal.returns-in_err-answer_next-clause-answers
returns-in_err-answer_next-clause-answers g c =
    goes_wrong_as g.A.Respond.responder _ _ _ _ _ _ _ _ _ _ _ _ c.loop.invariant.0 c.in_err-answer_next.field-0.0 _ (search rules) c.in_err-answer_next.ensures.answers

pub returns-in_err-answer_next-clause-taken : goal.returns-in_err-answer_next-clause-taken
returns-in_err-answer_next-clause-taken g c =
    takes_last g.A.Respond.responder g.A.Respond.takes _ _ _ _ _ (g.A.Respond.known c.answer_next.new.answerer) _ _ _ _ _ _ c.loop.invariant.1 _ c.in_err-answer_next.ensures.taken

pub returns-clause-answers : goal.returns-clause-answers
returns-clause-answers g c =
    let away : c.in_ok-answer_next.field-0 ≡ false = search (rules, tests) in
    goes_no_further g.A.Respond.responder _ _ _ _ _ _ _ _ _ _ _ _ c.loop.invariant.0 _ away c.in_ok-answer_next.ensures.answers

pub returns-clause-taken : goal.returns-clause-taken
returns-clause-taken g c =
    let away : c.in_ok-answer_next.field-0 ≡ false = search (rules, tests) in
    takes_no_more g.A.Respond.responder g.A.Respond.takes _ _ _ _ _ (g.A.Respond.known c.answer_next.new.answerer) _ _ _ _ _ _ c.loop.invariant.1 _ (ap Ok away) c.in_ok-answer_next.ensures.taken
