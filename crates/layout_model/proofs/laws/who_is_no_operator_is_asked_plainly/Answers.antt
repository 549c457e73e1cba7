use Rattle.layout_model.proofs.Alike.{plain_kids}
use Rattle.layout_model.proofs.laws.who_is_no_operator_is_asked_plainly.Goals as goal

pub returns : goal.returns
returns c = plain_kids
