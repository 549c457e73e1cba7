use Rattle.tree_edits.specs.Edits.{refusal_of}
use Rattle.line_replies.specs.HistorySteps.{ring_of, session_under}
use Rattle.line_replies.proofs.Histories.{edit_makes}
use Rattle.line_replies.proofs.EditSteps.{for_edit}
use Rattle.line_replies.proofs.history.change.Goals as goal

pub returns-clause-made : goal.returns-clause-made
returns-clause-made g c =
    let ring = c.args.ring.now in
    edit_makes ring.base.session.held ring.past ring.future ring.depth (ring_of c.edit.new.self) c.args.edit c.args.steps.now c.edit.new.steps
    c.edit.result _ c.edit.ensures c.told_edit.ensures

pub returns-clause-taken : goal.returns-clause-taken
returns-clause-taken g c =
    let session = session_under (ring_of c.args.ring.now) in
    for_edit session c.args.edit (refusal_of session.tree c.args.edit) c.args.steps.now c.edit.new.steps c.edit.ensures.unmade c.edit.ensures.steps
