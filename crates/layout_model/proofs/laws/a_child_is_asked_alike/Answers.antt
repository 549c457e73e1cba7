use Rattle.layout_model.proofs.Alike.{alike}
use Rattle.layout_model.proofs.laws.a_child_is_asked_alike.Goals as goal

pub returns : goal.returns
returns c = alike
