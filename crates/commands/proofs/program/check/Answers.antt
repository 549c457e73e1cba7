use Rattle.std.proofs.Common.{refl, inl, inr, subst, ◌∙◌, Ok, Err}
use Rattle.script_answers.specs.Texts.{whole_text}
use Rattle.commands.specs.Answer.{checked}
use Rattle.script_answers.specs.Delivering.{Delivers}
use Rattle.input_files.specs.declared.status.Status.TheVariants.{Done}
use Rattle.input_files.specs.declared.refusal.Refusal.TheVariants.{Memory}
use Rattle.commands.proofs.program.check.Goals as goal

pub returns-in-Ok : goal.returns-in-Ok
returns-in-Ok g c = record {
  result = Ok (whole_text (checked c.args.metrics.now c.args.tree.now));
  gives = inr refl;
  delivers = subst (λ text. Delivers text Done (g.O.Sink.told c.args.out.now) (g.O.Sink.told c.deliver.new.out) c.deliver.result)
      (c.as_slice.ensures ∙ c.in-Ok.ensures) c.deliver.ensures;
}

pub returns-in-Err : goal.returns-in-Err
returns-in-Err g c = record { result = Err Memory; gives = inl refl; delivers = c.tell.ensures }
