use Rattle.std.proofs.Common.{inl, refl, Err}
use Rattle.command_words.specs.Command.{work_of}
use Rattle.commands.proofs.Answering.{without_tree, with_tree}
use Rattle.commands.specs.Ends.{IsInParts}
use Rattle.commands.proofs.Parts.{since}
use Rattle.commands.proofs.Ending.{told_not_done}
use Rattle.commands.proofs.StepsTaken.{for_tree}
use Rattle.commands.proofs.program.answer_over.Goals as goal

pub returns-in-Ok-clause-answered : goal.returns-in-Ok-clause-answered
returns-in-Ok-clause-answered g c =
    let a = c.do_task.ensures.answered in
    record {
      result = a.result;
      answers = with_tree (work_of c.args.task) c.args.metrics c.args.name.now _ _ _ c.in-Ok.tree a.result c.in-Ok.ensures a.answers;
      delivers = since (IsInParts (work_of c.args.task)) a.result (g.I.Inputs.told c.args.inputs.now) (g.I.Inputs.told c.load_tree.new.inputs) (g.I.Inputs.told c.do_task.new.inputs)
          (g.O.Sink.told c.args.out.now) (g.O.Sink.told c.do_task.new.out) _ c.in-Ok.ensures.faults a.delivers;
      read_to_end = a.read_to_end;
    }

pub returns-in-Err-clause-answered : goal.returns-in-Err-clause-answered
returns-in-Err-clause-answered g c = record {
  result = Err c.in-Err.refusal;
  answers = without_tree (work_of c.args.task) c.args.metrics c.args.name.now _ _ c.in-Err.refusal c.in-Err.ensures;
  delivers = inl c.tell.ensures;
  read_to_end = λ done parts. absurd (told_not_done c.in-Err.refusal _ _ _ _ c.tell.ensures done);
}

pub returns-in-Ok-clause-taken : goal.returns-in-Ok-clause-taken
returns-in-Ok-clause-taken g c =
    for_tree (work_of c.args.task) c.args.metrics c.args.name.now _ _ c.in-Ok.tree _ _ c.in-Ok.ensures c.do_task.ensures.taken

pub returns-in-Err-clause-taken : goal.returns-in-Err-clause-taken
returns-in-Err-clause-taken g c = inl refl
