use Rattle.paint_list.proofs.Plain.{name_law}
use Rattle.paint_list.proofs.laws.names_need_no_escape.Goals as goal

pub returns : goal.returns
returns c = name_law
