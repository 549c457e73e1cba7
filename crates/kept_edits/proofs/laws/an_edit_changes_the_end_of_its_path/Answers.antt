use Rattle.kept_edits.proofs.OnePath.{edit_at_law}
use Rattle.kept_edits.proofs.laws.an_edit_changes_the_end_of_its_path.Goals as goal

pub returns : goal.returns
returns c = edit_at_law
