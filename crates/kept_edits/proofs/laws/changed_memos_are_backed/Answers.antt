use Rattle.kept_edits.proofs.Backed.{change_backed_law}
use Rattle.kept_edits.proofs.laws.changed_memos_are_backed.Goals as goal

pub returns : goal.returns
returns c = change_backed_law
