use Rattle.tree_edits.proofs.applying.apply_at.Goals as goal

pub returns-clause-back : goal.returns-clause-back
returns-clause-back c = c.carry_out_plan.ensures.back c.args.edit c.in_ok-plan.ensures.planned.back
