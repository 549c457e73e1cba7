use Rattle.line_replies.specs.HistorySteps.{ring_of}
use Rattle.line_replies.proofs.Histories.{redo_makes}
use Rattle.line_replies.proofs.history.redo.Goals as goal

pub returns-clause-made : goal.returns-clause-made
returns-clause-made g c =
    redo_makes (ring_of c.args.ring.now) (ring_of c.redo.new.self) c.args.steps.now c.redo.new.steps c.redo.result _ c.redo.ensures c.told_move.ensures

pub returns-clause-taken : goal.returns-clause-taken
returns-clause-taken g c = c.redo.ensures.steps
