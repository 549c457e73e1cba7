use Rattle.tree_edits.proofs.Inverses.{inverse_law}
use Rattle.tree_edits.proofs.laws.an_inverse_gives_back_the_elements_of_before.Goals as goal

pub returns : goal.returns
returns c = inverse_law
