use Rattle.multiscripts.proofs.Farthest.{all_keep_gap}
use Rattle.multiscripts.proofs.laws.the_ink_of_each_pair_keeps_the_least_gap.Goals as goal

pub returns : goal.returns
returns c = all_keep_gap
