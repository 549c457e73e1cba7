use Rattle.std.proofs.Common.{◌-◌}
use Rattle.doc_io.specs.LineReader.{most_lines}
use Rattle.script_answers.proofs.Reading.{Stands}
use Rattle.script_answers.proofs.StepsTaken.{Took}
use Rattle.script_answers.proofs.answering.answer_each.Given as goal

-- what was written and the replies to what is left are all replies: each line that was given has
-- its reply written; and the steps are those of the lines that were given
abbrev pub invariant-loop : goal.invariant-loop
invariant-loop g l =
    Stands g.A.Respond.responder (g.A.Respond.known l.fn.answerer) l.fn.reader (g.I.Inputs.told l.fn.inputs) (g.O.Sink.told l.fn.out)
    (g.A.Respond.known l.answerer) l.reader (g.I.Inputs.told l.inputs) (g.O.Sink.told l.out)
    × Took g.A.Respond.responder g.A.Respond.takes (g.A.Respond.known l.fn.answerer) l.fn.reader (g.I.Inputs.told l.fn.inputs) l.fn.steps
    (g.A.Respond.known l.answerer) l.reader (g.I.Inputs.told l.inputs) l.steps

abbrev pub decreases-loop : goal.decreases-loop
decreases-loop g l = most_lines - l.reader.given
