use Rattle.fixed_units.proofs.Rounding.{int_div_euclid_only}
use Rattle.fixed_units.proofs.laws.quotients_are_rounded_down.Goals as goal

pub returns : goal.returns
returns c = int_div_euclid_only
