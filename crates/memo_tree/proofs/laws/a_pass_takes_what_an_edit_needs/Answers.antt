use Rattle.memo_tree.proofs.Changes.{steps_law}
use Rattle.memo_tree.proofs.laws.a_pass_takes_what_an_edit_needs.Goals as goal

pub returns : goal.returns
returns c = steps_law
