use Rattle.scripts.proofs.ScriptLaws.{sub_low, sub_sup_low}
use Rattle.scripts.proofs.laws.subscripts_stand_low_enough.Goals as goal

pub returns : goal.returns
returns c = record { alone = sub_low; both = sub_sup_low }
