use Rattle.std.proofs.Common.{◌≡◌, ◌∙◌, inl, inr, refl, subst, ap, Ok, Err}
use Rattle.box_writer.specs.Lines.{text_of}
use Rattle.script_answers.specs.Texts.{whole_text}
use Rattle.commands.specs.Answer.{lines_of_page}
use Rattle.script_answers.specs.Delivering.{Delivers}
use Rattle.input_files.specs.declared.refusal.Refusal.TheVariants.{Memory}
use Rattle.input_files.specs.declared.status.Status.TheVariants.{Done}
use Rattle.commands.proofs.program.show.Goals as goal

pub returns-in-Ok-clause-written : goal.returns-in-Ok-clause-written
returns-in-Ok-clause-written g c =
    let s = c.args.session.now.held in
    let told = g.O.Sink.told in
    let metrics : c.metrics.result.now ≡ s.metrics = c.metrics.ensures.exact ∙ ap (λ t. t.metrics) c.in-Ok.ensures.held in
    let same : text_of c.metrics.result.now c.in-Ok.placed ≡ lines_of_page s = λ i. text_of (metrics i) (c.in-Ok.ensures.page i) in
    record {
      result = Ok (whole_text (lines_of_page s));
      gives = inr refl;
      delivers = subst (λ text. Delivers text Done (told c.args.out.now) (told c.deliver_lines.new.out) c.deliver_lines.result)
          same c.deliver_lines.ensures;
    }

pub returns-in-Err-clause-written : goal.returns-in-Err-clause-written
returns-in-Err-clause-written g c = record { result = Err Memory; gives = inl refl; delivers = c.tell.ensures }
