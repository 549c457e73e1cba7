use Rattle.kept_edits.proofs.Unlaid.{blank_law}
use Rattle.kept_edits.proofs.laws.blank_memos_agree.Goals as goal

pub returns : goal.returns
returns c = blank_law
