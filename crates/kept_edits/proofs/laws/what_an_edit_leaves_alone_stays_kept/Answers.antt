use Rattle.kept_edits.proofs.Needing.{stays_law}
use Rattle.kept_edits.proofs.laws.what_an_edit_leaves_alone_stays_kept.Goals as goal

pub returns : goal.returns
returns c = stays_law
