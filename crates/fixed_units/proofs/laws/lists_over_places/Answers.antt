use Rattle.fixed_units.proofs.Sums.{length-list_to, slice_get-list_to}
use Rattle.fixed_units.proofs.laws.lists_over_places.Goals as goal

pub returns : goal.returns
returns g c = record { length = λ n f. length-list_to n f; item = λ n i f h. slice_get-list_to n i f h }
