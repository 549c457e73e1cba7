use Rattle.kept_edits.proofs.Changing.{change_law}
use Rattle.kept_edits.proofs.laws.changed_memos_agree.Goals as goal

pub returns : goal.returns
returns c = change_law
