use Rattle.std.proofs.Common.{inl, refl, Ok, Err}
use Rattle.commands.proofs.Answering.{with_script, without_script}
use Rattle.commands.proofs.Parts.{in_parts}
use Rattle.commands.proofs.Ending.{told_not_done}
use Rattle.commands.proofs.Steps.{later, replied_later, script_late}
use Rattle.script_answers.proofs.StepsTaken.{for_no_lines}
use Rattle.commands.proofs.StepsTaken.{for_file}
use Rattle.commands.proofs.program.answer_script.Goals as goal

pub returns-in-Ok-clause-answered : goal.returns-in-Ok-clause-answered
returns-in-Ok-clause-answered g c =
    let name = c.args.name.now in
    let before = g.I.Inputs.told c.args.inputs.now in
    let mid = g.I.Inputs.told c.open_script.new.inputs in
    let after = g.I.Inputs.told c.answer_lines-status.new.inputs in
    let old = g.O.Sink.told c.args.out.now in
    let new = g.O.Sink.told c.answer_lines-status.new.out in
    let a = c.answer_lines-status.ensures.answers in
    record {
      result = Ok a.text;
      answers = with_script g.A.Respond.responder name (g.A.Respond.known c.args.answerer.now) before mid after old new _ _ c.in-Ok.ensures a;
      delivers = in_parts a.text before mid after old new _ c.in-Ok.ensures.selects.faults a.delivers;
      read_to_end = λ done parts. a.read_to_end done;
    }

pub returns-in-Ok-clause-late : goal.returns-in-Ok-clause-late
returns-in-Ok-clause-late g c =
    let mid = g.I.Inputs.told c.open_script.new.inputs in
    let after = g.I.Inputs.told c.answer_lines-status.new.inputs in
    let old = g.O.Sink.told c.args.out.now in
    let new = g.O.Sink.told c.answer_lines-status.new.out in
    let a = c.answer_lines-status.ensures.answers in
    replied_later a.text mid after old new _ a.delivers

pub returns-in-Err-clause-answered : goal.returns-in-Err-clause-answered
returns-in-Err-clause-answered g c = record {
  result = Err c.in-Err.refusal;
  answers = without_script g.A.Respond.responder c.args.name.now (g.A.Respond.known c.args.answerer.now) (g.I.Inputs.told c.args.inputs.now) (g.I.Inputs.told c.open_script.new.inputs) c.in-Err.refusal c.in-Err.ensures;
  delivers = inl c.tell.ensures;
  read_to_end = λ done parts. absurd (told_not_done c.in-Err.refusal _ _ _ _ c.tell.ensures done);
}

pub returns-in-Err-clause-late : goal.returns-in-Err-clause-late
returns-in-Err-clause-late g c = later _ _ _ (g.O.Sink.told c.args.out.now) (g.O.Sink.told c.tell.new.out) (script_late c.in-Err.refusal c.in-Err.ensures.selects.cut) c.tell.ensures

pub returns-in-Ok-clause-taken : goal.returns-in-Ok-clause-taken
returns-in-Ok-clause-taken g c =
    for_file g.A.Respond.responder g.A.Respond.takes (g.A.Respond.known c.args.answerer.now) c.args.name.now (g.I.Inputs.told c.args.inputs.now) (g.I.Inputs.told c.open_script.new.inputs) c.in-Ok.reader _ _
    c.in-Ok.ensures c.answer_lines-status.ensures.taken

pub returns-in-Err-clause-taken : goal.returns-in-Err-clause-taken
returns-in-Err-clause-taken g c = for_no_lines g.A.Respond.responder g.A.Respond.takes _ _ _ _ refl
