use Rattle.kept_edits.proofs.EditedTrees.{follow_law}
use Rattle.kept_edits.proofs.laws.memos_follow_an_edit.Goals as goal

pub returns : goal.returns
returns c = follow_law
