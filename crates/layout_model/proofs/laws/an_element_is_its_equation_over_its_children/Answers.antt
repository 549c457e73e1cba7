use Rattle.layout_model.proofs.Trees.{layout_law}
use Rattle.layout_model.proofs.laws.an_element_is_its_equation_over_its_children.Goals as goal

pub returns : goal.returns
returns c = layout_law
