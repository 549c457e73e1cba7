use Rattle.std.proofs.Common.{refl}
use Rattle.tree_edits.proofs.PlanMade.{is_plan}
use Rattle.tree_edits.proofs.planning.EditPlan.of_accepted.Goals as goal

pub returns-clause-planned : goal.returns-clause-planned
returns-clause-planned c =
    let found = c.requires.accepted in
    is_plan c.args.tree.now c.args.edit c.args.accepted.path found.element c.args.accepted.totals _ c.requires.proper found.allows found.totals_are
    found.within found.free c.in_ok-of_edit.ensures.makes c.in_ok-of_edit.ensures.back refl refl refl
