use Rattle.scripts.proofs.LimitLaws.{accents_over}
use Rattle.scripts.proofs.laws.accents_meet.Goals as goal

pub returns : goal.returns
returns c = accents_over
