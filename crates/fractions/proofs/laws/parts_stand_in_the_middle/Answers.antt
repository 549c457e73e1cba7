use Rattle.fractions.proofs.Gaps.{stands_in_the_middle}
use Rattle.fractions.proofs.laws.parts_stand_in_the_middle.Goals as goal

pub returns : goal.returns
returns c = stands_in_the_middle
