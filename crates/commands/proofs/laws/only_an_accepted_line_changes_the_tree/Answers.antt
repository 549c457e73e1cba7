use Rattle.commands.proofs.RepliesLaws.{unchanged}
use Rattle.commands.proofs.laws.only_an_accepted_line_changes_the_tree.Goals as goal

pub returns : goal.returns
returns c = unchanged
