use Rattle.outcome_cells.proofs.Found.{swept_found}
use Rattle.outcome_cells.proofs.laws.a_sweep_keeps_listed_outcomes.Goals as goal

pub returns : goal.returns
returns c = swept_found
