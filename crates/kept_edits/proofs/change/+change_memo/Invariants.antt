use Rattle.std.proofs.Common.{length}
use Rattle.kept_edits.proofs.change.+change_memo.Given as goal

abbrev pub decreases-change_memo : goal.decreases-change_memo
decreases-change_memo l = length l.path.now
