use Rattle.layout_model.proofs.Trees.{laid_law}
use Rattle.layout_model.proofs.laws.children_are_laid_out_as_asked_last.Goals as goal

pub returns : goal.returns
returns c = laid_law
