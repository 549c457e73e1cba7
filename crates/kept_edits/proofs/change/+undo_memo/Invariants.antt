use Rattle.std.proofs.Common.{length}
use Rattle.kept_edits.proofs.change.+undo_memo.Given as goal

abbrev pub decreases-undo_memo : goal.decreases-undo_memo
decreases-undo_memo l = length l.path.now
