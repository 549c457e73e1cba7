use Rattle.kept_edits.proofs.Counting.{change_count_law}
use Rattle.kept_edits.proofs.laws.an_edit_adds_no_entry.Goals as goal

pub returns : goal.returns
returns c = change_count_law
