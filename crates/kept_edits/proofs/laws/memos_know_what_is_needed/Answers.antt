use Rattle.kept_edits.proofs.OnTheWay.{beside_law}
use Rattle.kept_edits.proofs.laws.memos_know_what_is_needed.Goals as goal

pub returns : goal.returns
returns c = beside_law
