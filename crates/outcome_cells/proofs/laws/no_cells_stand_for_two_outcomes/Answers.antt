use Rattle.outcome_cells.proofs.OneOutcome.{one_outcome}
use Rattle.outcome_cells.proofs.laws.no_cells_stand_for_two_outcomes.Goals as goal

pub returns : goal.returns
returns c = one_outcome
