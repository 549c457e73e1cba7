use Rattle.scripts.proofs.ScriptLaws.{sup_high, sub_sup_high}
use Rattle.scripts.proofs.laws.superscripts_stand_high_enough.Goals as goal

pub returns : goal.returns
returns c = record { alone = sup_high; both = sub_sup_high }
