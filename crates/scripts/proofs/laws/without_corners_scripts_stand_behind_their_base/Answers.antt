use Rattle.scripts.proofs.KernLaws.{sub-behind, sup-behind, sub_sup-behind}
use Rattle.scripts.proofs.laws.without_corners_scripts_stand_behind_their_base.Goals as goal

pub returns : goal.returns
returns c = record { sub = sub-behind; sup = sup-behind; both = sub_sup-behind }
