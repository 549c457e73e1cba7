use Rattle.embellished.proofs.FlowLaws.{scripts}
use Rattle.embellished.proofs.laws.scripts_come_in_pairs.Goals as goal

pub returns : goal.returns
returns c = scripts
