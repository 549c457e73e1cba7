use Rattle.fixed_units.proofs.Sums.{sum_to-add_one, sum_to_in, sum_to-+ℤ}
use Rattle.fixed_units.proofs.laws.sums_over_places.Goals as goal

pub returns : goal.returns
returns c = record { one_more = sum_to-add_one; within = λ m n f p. sum_to_in n f p; sum = sum_to-+ℤ }
