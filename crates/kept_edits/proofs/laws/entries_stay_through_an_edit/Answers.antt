use Rattle.kept_edits.proofs.Ended.{entries_stay_law}
use Rattle.kept_edits.proofs.laws.entries_stay_through_an_edit.Goals as goal

pub returns : goal.returns
returns c = entries_stay_law
