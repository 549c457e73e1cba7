use Rattle.layout_model.proofs.AllAsked.{laid_kids}
use Rattle.layout_model.proofs.laws.all_children_in_flow_are_laid_out.Goals as goal

pub returns : goal.returns
returns c = laid_kids
