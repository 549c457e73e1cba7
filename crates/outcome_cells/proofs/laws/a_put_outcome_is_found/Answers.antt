use Rattle.outcome_cells.proofs.Found.{put_found}
use Rattle.outcome_cells.proofs.laws.a_put_outcome_is_found.Goals as goal

pub returns : goal.returns
returns c = put_found
