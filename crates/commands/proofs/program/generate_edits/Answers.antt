use Rattle.std.proofs.Common.{ap, subst, sym, Err}
use Rattle.commands.specs.Answer.{generates}
use Rattle.input_files.specs.Files.{GivesOr}
use Rattle.commands.proofs.Answering.{generates_told, not_generated}
use Rattle.commands.proofs.program.generate_edits.Goals as goal

pub returns-in-Ok-clause-written : goal.returns-in-Ok-clause-written
returns-in-Ok-clause-written g c =
    let w = c.write_summary.ensures.written in
    record {
      result = w.result;
      gives = generates_told c.args.metrics c.args.seed c.args.count c.in-Ok.told w.result c.in-Ok.ensures.fit c.in-Ok.ensures.told w.gives;
      delivers = w.delivers;
    }

pub returns-in-Err-clause-written : goal.returns-in-Err-clause-written
returns-in-Err-clause-written g c = record {
  result = Err c.of_layout.result;
  gives = subst (λ refusal. GivesOr (generates c.args.metrics c.args.seed c.args.count) (Err refusal)) (sym c.of_layout.ensures)
      (not_generated c.in-Err.refusal c.args.metrics c.args.seed c.args.count (λ e. c.in-Err.ensures.range (ap Err e)));
  delivers = c.tell.ensures;
}
