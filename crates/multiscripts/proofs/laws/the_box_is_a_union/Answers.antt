use Rattle.multiscripts.proofs.Farthest.{box_is_union}
use Rattle.multiscripts.proofs.laws.the_box_is_a_union.Goals as goal

pub returns : goal.returns
returns c = box_is_union
