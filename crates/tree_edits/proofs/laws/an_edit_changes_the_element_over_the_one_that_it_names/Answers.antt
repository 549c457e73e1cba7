use Rattle.tree_edits.proofs.OneElement.{parent_change_law}
use Rattle.tree_edits.proofs.laws.an_edit_changes_the_element_over_the_one_that_it_names.Goals as goal

pub returns : goal.returns
returns c = parent_change_law
