use Rattle.kept_edits.proofs.EditedTrees.{parent_edit_law}
use Rattle.kept_edits.proofs.laws.an_edit_is_a_change_of_a_parent.Goals as goal

pub returns : goal.returns
returns c = parent_edit_law
