use Rattle.embellished.proofs.Stretching.{stretches}
use Rattle.embellished.proofs.laws.stretching_is_that_of_the_core.Goals as goal

pub returns : goal.returns
returns c = stretches
