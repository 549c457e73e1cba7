use Rattle.scripts.proofs.LimitLaws.{keep_gaps}
use Rattle.scripts.proofs.laws.the_ink_of_limits_keeps_its_gaps.Goals as goal

pub returns : goal.returns
returns c = λ m base under over case accent accentunder size. keep_gaps m base case accent accentunder size under over
