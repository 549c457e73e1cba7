use Rattle.fixed_units.proofs.Rounding.{rounded_only}
use Rattle.fixed_units.proofs.laws.rounded_is_the_nearest.Goals as goal

pub returns : goal.returns
returns c = rounded_only
