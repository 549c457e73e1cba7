use Rattle.multiscripts.proofs.OnePair.{one_pair}
use Rattle.multiscripts.proofs.laws.one_pair_is_two_scripts.Goals as goal

pub returns : goal.returns
returns c = one_pair
