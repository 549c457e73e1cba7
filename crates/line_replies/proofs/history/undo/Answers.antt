use Rattle.line_replies.specs.HistorySteps.{ring_of}
use Rattle.line_replies.proofs.Histories.{undo_makes}
use Rattle.line_replies.proofs.history.undo.Goals as goal

pub returns-clause-made : goal.returns-clause-made
returns-clause-made g c =
    undo_makes (ring_of c.args.ring.now) (ring_of c.undo.new.self) c.args.steps.now c.undo.new.steps c.undo.result _ c.undo.ensures c.told_move.ensures

pub returns-clause-taken : goal.returns-clause-taken
returns-clause-taken g c = c.undo.ensures.steps
