use Rattle.fixed_units.proofs.Within.{product_in, half_in, rounded_in}
use Rattle.fixed_units.proofs.laws.results_stay_within.Goals as goal

pub returns-clause-product : goal.returns-clause-product
returns-clause-product c m n a b p q = product_in p q

pub returns-clause-halved : goal.returns-clause-halved
returns-clause-halved c m a p = half_in p

pub returns-clause-rounded : goal.returns-clause-rounded
returns-clause-rounded c m a b h p = rounded_in b h p
