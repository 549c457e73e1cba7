use Rattle.commands.proofs.RepliesLaws.{counts_as_replied}
use Rattle.commands.proofs.laws.gen_counts_what_ok_would_answer.Goals as goal

pub returns : goal.returns
returns c = counts_as_replied
