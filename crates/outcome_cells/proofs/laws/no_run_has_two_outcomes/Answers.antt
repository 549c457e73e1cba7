use Rattle.outcome_cells.proofs.Found.{one_for_run}
use Rattle.outcome_cells.proofs.laws.no_run_has_two_outcomes.Goals as goal

pub returns : goal.returns
returns c = one_for_run
