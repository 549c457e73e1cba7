use Rattle.scripts.proofs.Gaps.{scripts_keep_gap}
use Rattle.scripts.proofs.laws.the_ink_of_two_scripts_keeps_the_least_gap.Goals as goal

pub returns : goal.returns
returns c = scripts_keep_gap
