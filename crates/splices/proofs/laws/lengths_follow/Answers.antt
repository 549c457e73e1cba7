use Rattle.splices.proofs.Splicing.{length_law}
use Rattle.splices.proofs.laws.lengths_follow.Goals as goal

pub returns : goal.returns
returns g c = length_law
