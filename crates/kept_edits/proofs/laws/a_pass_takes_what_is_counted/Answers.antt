use Rattle.kept_edits.proofs.Needing.{counted_law}
use Rattle.kept_edits.proofs.laws.a_pass_takes_what_is_counted.Goals as goal

pub returns : goal.returns
returns c = counted_law
