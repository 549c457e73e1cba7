use Rattle.kept_edits.proofs.Ended.{accepted_law}
use Rattle.kept_edits.proofs.laws.an_accepted_edit_is_sealed.Goals as goal

pub returns : goal.returns
returns c = accepted_law
