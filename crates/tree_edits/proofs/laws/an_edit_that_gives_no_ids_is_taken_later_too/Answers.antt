use Rattle.tree_edits.proofs.Later.{later_law}
use Rattle.tree_edits.proofs.laws.an_edit_that_gives_no_ids_is_taken_later_too.Goals as goal

pub returns : goal.returns
returns c = later_law
