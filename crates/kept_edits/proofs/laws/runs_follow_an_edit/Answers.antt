use Rattle.kept_edits.proofs.Runs.{follow_backed_law}
use Rattle.kept_edits.proofs.laws.runs_follow_an_edit.Goals as goal

pub returns : goal.returns
returns c = follow_backed_law
