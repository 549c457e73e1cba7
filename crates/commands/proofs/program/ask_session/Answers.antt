use Rattle.std.proofs.Common.{◌≡◌, ◌∙◌, inr, sym, ap, subst, Ok, Err}
use Rattle.queries.specs.Queries.{IsWritable, answer_to, bytes_of}
use Rattle.script_answers.specs.Texts.{whole_text}
use Rattle.commands.specs.Answer.{answered, of_answer}
use Rattle.script_answers.specs.Delivering.{Delivers}
use Rattle.input_files.specs.Status.{EndsUnlaid}
use Rattle.input_files.specs.Files.{GivesOr}
use Rattle.input_files.specs.Refusals.{status_of}
use Rattle.input_files.specs.declared.status.Status.TheVariants.{Done}
use Rattle.commands.proofs.Answering.{not_answered}
use Rattle.commands.proofs.Steps.{late, query_late}
use Rattle.commands.proofs.program.ask_session.Goals as goal

pub deliver_answer-status-requires : goal.deliver_answer-status-requires
deliver_answer-status-requires g c =
    let metrics = c.metrics.ensures.exact ∙ ap (λ s. s.metrics) c.in-Ok.ensures.unchanged in
    subst (λ m. IsWritable m c.in-Ok.answer) (sym metrics) c.in-Ok.ensures.writable

pub returns-in-Ok-clause-written : goal.returns-in-Ok-clause-written
returns-in-Ok-clause-written g c =
    let s = c.args.session.now.held in
    let told = g.O.Sink.told in
    let metrics : c.metrics.result.now ≡ s.metrics = c.metrics.ensures.exact ∙ ap (λ s. s.metrics) c.in-Ok.ensures.unchanged in
    record {
      result = Ok (whole_text (bytes_of s.metrics c.in-Ok.answer));
      gives = inr (sym (ap of_answer c.in-Ok.ensures.told));
      delivers = subst (λ m. Delivers (bytes_of m c.in-Ok.answer) Done (told c.args.out.now) (told c.deliver_answer-status.new.out) c.deliver_answer-status.result)
          metrics c.deliver_answer-status.ensures;
    }

pub returns-in-Err-clause-written : goal.returns-in-Err-clause-written
returns-in-Err-clause-written g c = record {
  result = Err c.of_query.result;
  gives = subst (λ r. GivesOr (answered c.args.query c.args.session.now.held) (Err r)) (sym c.of_query.ensures)
      (not_answered c.in-Err.refusal (answer_to c.args.query c.args.session.now.held) c.in-Err.ensures.refused);
  delivers = c.tell.ensures;
}

pub returns-in-Err-clause-late : goal.returns-in-Err-clause-late
returns-in-Err-clause-late g c =
    late _ _ _ _ _ (subst (λ r. ¬ EndsUnlaid (status_of r)) (sym c.of_query.ensures) (query_late c.in-Err.refusal)) c.tell.ensures
