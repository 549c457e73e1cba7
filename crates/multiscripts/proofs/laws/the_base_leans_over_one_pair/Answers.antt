use Rattle.multiscripts.proofs.Leaning.{first_leans, later_dont}
use Rattle.multiscripts.proofs.laws.the_base_leans_over_one_pair.Goals as goal

pub returns : goal.returns
returns c = record { first = first_leans; later = later_dont }
