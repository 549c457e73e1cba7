use Rattle.std.proofs.Common.{◌≡◌, ◌∙◌, ap, inl, inr, true, false, refl, subst, rules, tests}
use Rattle.std.specs.Prelude.{Err, Ok}
use Rattle.script_answers.specs.Lines.{Tells}
use Rattle.script_answers.proofs.Reading.{came, ended, stopped_next}
use Rattle.script_answers.proofs.StepsTaken.{for_cut_next, for_no_next}
use Rattle.script_answers.proofs.answering.answer_next.Goals as goal

pub returns-in_err-next_line-clause-answers : goal.returns-in_err-next_line-clause-answers
returns-in_err-next_line-clause-answers g c =
    stopped_next g.A.Respond.responder _ _ _ _ _ _ _ _ c.in_err-next_line.field-0.0 _ (search rules) (inl (c.in_err-next_line.ensures, refl))

pub returns-in_err-next_line-clause-taken : goal.returns-in_err-next_line-clause-taken
returns-in_err-next_line-clause-taken g c =
    for_no_next g.A.Respond.responder g.A.Respond.takes _ _ _ _ _ _ _ c.in_err-next_line.field-0.0 _ (search rules) refl

pub returns-then-not-branch-clause-answers : goal.returns-then-not-branch-clause-answers
returns-then-not-branch-clause-answers g c =
    let away : c.in_ok-next_line.field-0 ≡ false = search (rules, tests) in
    record {
      line = λ e. absurd cc;
      end = λ e. (ended _ _ _ _ _ away c.in_ok-next_line.ensures, refl);
      stop = tt;
    }

pub returns-then-not-branch-clause-taken : goal.returns-then-not-branch-clause-taken
returns-then-not-branch-clause-taken g c = record { line = λ e. absurd cc; end = λ e. refl; stop = tt }

pub returns-in_err-answer_line-clause-answers : goal.returns-in_err-answer_line-clause-answers
returns-in_err-answer_line-clause-answers g c =
    let there : c.in_ok-next_line.field-0 ≡ true = search (rules, tests) in
    let told = g.O.Sink.told in
    stopped_next g.A.Respond.responder _ _ _ _ _ _ _ _ c.in_err-answer_line.field-0.0 _ (search rules)
    (inr (
      came _ _ _ _ _ there c.in_ok-next_line.ensures,
      subst (λ l. Tells (g.A.Respond.responder.told_of (g.A.Respond.known c.args.answerer.now) l) (told c.args.out.now) (told c.answer_line.new.out) (Err c.in_err-answer_line.field-0.0))
          c.line.ensures c.in_err-answer_line.ensures.told,
    ))

pub returns-in_err-answer_line-clause-taken : goal.returns-in_err-answer_line-clause-taken
returns-in_err-answer_line-clause-taken g c =
    let there : c.in_ok-next_line.field-0 ≡ true = search (rules, tests) in
    for_cut_next g.A.Respond.responder g.A.Respond.takes _ _ _ _ _ _ _ c.in_err-answer_line.field-0.0 _ (search rules) (came _ _ _ _ _ there c.in_ok-next_line.ensures)
    (subst (λ l. g.A.Respond.takes (g.A.Respond.known c.args.answerer.now) l c.args.steps.now c.answer_line.new.steps) c.line.ensures c.in_err-answer_line.ensures.taken)

pub returns-clause-answers : goal.returns-clause-answers
returns-clause-answers g c =
    let there : c.in_ok-next_line.field-0 ≡ true = search (rules, tests) in
    let told = g.O.Sink.told in
    let reply = c.in_ok-answer_line.ensures in
    record {
      line = λ e. (
        came _ _ _ _ _ there c.in_ok-next_line.ensures,
        subst (λ l. Tells (g.A.Respond.responder.told_of (g.A.Respond.known c.args.answerer.now) l) (told c.args.out.now) (told c.answer_line.new.out) (Ok tt)) c.line.ensures reply.told,
        reply.after ∙ ap (g.A.Respond.responder.after_line (g.A.Respond.known c.args.answerer.now)) c.line.ensures,
      );
      end = λ e. absurd cc;
      stop = tt;
    }

pub returns-clause-taken : goal.returns-clause-taken
returns-clause-taken g c = record {
  line = λ e. subst (λ l. g.A.Respond.takes (g.A.Respond.known c.args.answerer.now) l c.args.steps.now c.answer_line.new.steps) c.line.ensures c.in_ok-answer_line.ensures.taken;
  end = λ e. absurd cc;
  stop = tt;
}
