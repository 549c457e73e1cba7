use Rattle.tree_edits.proofs.change.+carry_out_at.Given as goal

abbrev pub decreases-carry_out_at : goal.decreases-carry_out_at
decreases-carry_out_at l = goal.size-carry_out_at l
