use Rattle.std.proofs.Common.{◌∙◌, refl, inl, inr, subst, Ok, Err}
use Rattle.seeded_edits.specs.Summary.{lines_of}
use Rattle.script_answers.specs.Texts.{whole_text}
use Rattle.script_answers.specs.Delivering.{Delivers}
use Rattle.input_files.specs.declared.refusal.Refusal.TheVariants.{Memory}
use Rattle.input_files.specs.declared.status.Status.TheVariants.{Done}
use Rattle.commands.proofs.program.write_summary.Goals as goal

pub returns-in-Ok-clause-written : goal.returns-in-Ok-clause-written
returns-in-Ok-clause-written g c =
    let told = g.O.Sink.told in
    record {
      result = Ok (whole_text (lines_of c.args.told.now));
      gives = inr refl;
      delivers = subst (λ text. Delivers text Done (told c.args.out.now) (told c.deliver.new.out) c.deliver.result)
          (c.as_bytes.ensures.value ∙ c.in-Ok.ensures.ok) c.deliver.ensures;
    }

pub returns-in-Err-clause-written : goal.returns-in-Err-clause-written
returns-in-Err-clause-written g c = record { result = Err Memory; gives = inl refl; delivers = c.tell.ensures }
