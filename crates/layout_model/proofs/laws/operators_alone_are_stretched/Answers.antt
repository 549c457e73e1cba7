use Rattle.layout_model.proofs.Alike.{handed_down}
use Rattle.layout_model.proofs.laws.operators_alone_are_stretched.Goals as goal

pub returns : goal.returns
returns c = handed_down
