use Rattle.scripts.proofs.LimitLaws.{stand_inside}
use Rattle.scripts.proofs.laws.limits_stand_inside.Goals as goal

pub returns : goal.returns
returns c = λ m base under over case accent accentunder size. stand_inside m base case accent accentunder size under over
