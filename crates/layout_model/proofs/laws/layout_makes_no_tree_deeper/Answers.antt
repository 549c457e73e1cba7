use Rattle.layout_model.proofs.LaidTrees.{levels_law}
use Rattle.layout_model.proofs.laws.layout_makes_no_tree_deeper.Goals as goal

pub returns : goal.returns
returns c = levels_law
