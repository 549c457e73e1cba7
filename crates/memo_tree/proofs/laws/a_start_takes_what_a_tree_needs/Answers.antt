use Rattle.memo_tree.proofs.Changes.{visits_law}
use Rattle.memo_tree.proofs.laws.a_start_takes_what_a_tree_needs.Goals as goal

pub returns : goal.returns
returns c = visits_law
