use Rattle.fixed_units.proofs.Rounding.{halved_only}
use Rattle.fixed_units.proofs.laws.halved_is_the_half.Goals as goal

pub returns : goal.returns
returns c = halved_only
