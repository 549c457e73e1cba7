use Rattle.commands.proofs.RepliesLaws.{one_by_one}
use Rattle.commands.proofs.laws.each_reply_is_over_the_tree_as_edited_so_far.Goals as goal

pub returns : goal.returns
returns c = one_by_one
