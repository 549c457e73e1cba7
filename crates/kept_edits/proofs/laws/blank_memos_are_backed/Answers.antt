use Rattle.kept_edits.proofs.Backed.{blank_backed_law}
use Rattle.kept_edits.proofs.laws.blank_memos_are_backed.Goals as goal

pub returns : goal.returns
returns c = blank_backed_law
