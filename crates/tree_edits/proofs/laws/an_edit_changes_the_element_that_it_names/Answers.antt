use Rattle.tree_edits.proofs.OneElement.{own_change_law}
use Rattle.tree_edits.proofs.laws.an_edit_changes_the_element_that_it_names.Goals as goal

pub returns : goal.returns
returns c = own_change_law
