use Rattle.scripts.proofs.LimitLaws.{under_plain, under_stretchy}
use Rattle.scripts.proofs.laws.underscripts_stand_in_the_middle.Goals as goal

pub returns : goal.returns
returns c = record { plain = under_plain; stretchy = under_stretchy }
