use Rattle.multiscripts.proofs.Farthest.{prescripts_end_together}
use Rattle.multiscripts.proofs.laws.prescripts_end_together.Goals as goal

pub returns : goal.returns
returns c = prescripts_end_together
