use Rattle.std.proofs.Common.{inl, inr, refl, sym, Err}
use Rattle.line_replies.specs.Replies.{by_session}
use Rattle.line_replies.specs.EditSteps.{TakesForLine}
use Rattle.commands.proofs.Answering.{edited_answers, with_session, without_session}
use Rattle.commands.proofs.Ending.{told_not_done}
use Rattle.commands.proofs.StepsTaken.{for_no_session, for_session}
use Rattle.commands.proofs.program.edit.Goals as goal

pub returns-in-Ok-clause-answered : goal.returns-in-Ok-clause-answered
returns-in-Ok-clause-answered g c =
    let a = c.answer_script-status.ensures.answered in
    record {
      result = a.result;
      answers = edited_answers c.args.script.now c.args.metrics c.args.tree _ _ a.result
          (with_session by_session (λ session. session) c.args.script.now c.args.metrics c.args.tree _ _ c.in-Ok.session.held c.in-Ok.session.held a.result (inr (sym c.in-Ok.ensures.session)) refl a.answers);
      delivers = a.delivers;
      read_to_end = a.read_to_end;
    }

pub returns-in-Err-clause-answered : goal.returns-in-Err-clause-answered
returns-in-Err-clause-answered g c = record {
  result = Err c.in-Err.refusal;
  answers = edited_answers c.args.script.now c.args.metrics c.args.tree _ _ (Err c.in-Err.refusal)
      (without_session by_session (λ session. session) c.args.script.now c.args.metrics c.args.tree _ c.in-Err.refusal c.in-Err.ensures.refused);
  delivers = inl c.tell.ensures;
  read_to_end = λ done parts. absurd (told_not_done c.in-Err.refusal _ _ _ _ c.tell.ensures done);
}

pub returns-in-Ok-clause-taken : goal.returns-in-Ok-clause-taken
returns-in-Ok-clause-taken g c =
    for_session by_session TakesForLine (λ session. session) c.args.metrics c.args.tree c.in-Ok.session.held c.in-Ok.session.held _ _ _ _ c.in-Ok.ensures.session refl c.in-Ok.ensures.taken c.answer_script-status.ensures.taken

pub returns-in-Err-clause-taken : goal.returns-in-Err-clause-taken
returns-in-Err-clause-taken g c = for_no_session by_session TakesForLine (λ session. session) c.args.metrics c.args.tree _ _ _ c.in-Err.ensures.taken
