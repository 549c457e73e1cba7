use Rattle.kept_edits.proofs.OnePath.{edit_path_law}
use Rattle.kept_edits.proofs.laws.an_edit_has_one_path.Goals as goal

pub returns : goal.returns
returns c = edit_path_law
