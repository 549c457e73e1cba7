use Rattle.splices.proofs.Splicing.{moves_law}
use Rattle.splices.proofs.laws.what_stays_is_moved.Goals as goal

pub returns : goal.returns
returns g c = moves_law
