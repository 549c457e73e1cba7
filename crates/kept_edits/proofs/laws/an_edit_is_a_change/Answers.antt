use Rattle.kept_edits.proofs.EditedTrees.{own_edit_law}
use Rattle.kept_edits.proofs.laws.an_edit_is_a_change.Goals as goal

pub returns : goal.returns
returns c = own_edit_law
