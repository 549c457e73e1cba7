use Rattle.embellished.proofs.CoreLaws.{led}
use Rattle.embellished.proofs.laws.one_child_leads_to_the_core.Goals as goal

pub returns : goal.returns
returns c = led
