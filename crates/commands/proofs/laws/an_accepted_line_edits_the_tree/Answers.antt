use Rattle.commands.proofs.RepliesLaws.{accepted}
use Rattle.commands.proofs.laws.an_accepted_line_edits_the_tree.Goals as goal

pub returns : goal.returns
returns c = accepted
