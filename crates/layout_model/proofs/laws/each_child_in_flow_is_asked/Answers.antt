use Rattle.layout_model.proofs.AllAsked.{all_asked}
use Rattle.layout_model.proofs.laws.each_child_in_flow_is_asked.Goals as goal

pub returns : goal.returns
returns c = all_asked
