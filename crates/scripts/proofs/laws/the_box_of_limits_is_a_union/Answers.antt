use Rattle.scripts.proofs.LimitLaws.{limits_are_a_union}
use Rattle.scripts.proofs.laws.the_box_of_limits_is_a_union.Goals as goal

pub returns : goal.returns
returns c = λ m base under over case accent accentunder size. limits_are_a_union m base case accent accentunder size under over
