use Rattle.kept_edits.proofs.Runs.{change_own_runs_law}
use Rattle.kept_edits.proofs.laws.entries_have_own_runs_after_an_edit.Goals as goal

pub returns : goal.returns
returns c = change_own_runs_law
