use Rattle.kept_edits.proofs.Backwards.{back_law}
use Rattle.kept_edits.proofs.laws.changes_can_be_taken_back.Goals as goal

pub returns : goal.returns
returns c = back_law
