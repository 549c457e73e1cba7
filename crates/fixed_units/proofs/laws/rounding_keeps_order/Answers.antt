use Rattle.fixed_units.proofs.Rounding.{rounded_at_most, halved_at_most, rounded-*ℤ}
use Rattle.fixed_units.proofs.laws.rounding_keeps_order.Goals as goal

pub returns : goal.returns
returns c = record { rounded = rounded_at_most; halved = halved_at_most; whole = rounded-*ℤ }
