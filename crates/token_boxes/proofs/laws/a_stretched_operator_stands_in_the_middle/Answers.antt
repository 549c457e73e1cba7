use Rattle.token_boxes.proofs.Middles.{upward_in_the_middle}
use Rattle.token_boxes.proofs.laws.a_stretched_operator_stands_in_the_middle.Goals as goal

pub returns : goal.returns
returns c = upward_in_the_middle
