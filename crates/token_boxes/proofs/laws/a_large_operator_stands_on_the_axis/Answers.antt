use Rattle.token_boxes.proofs.Middles.{large_on_the_axis}
use Rattle.token_boxes.proofs.laws.a_large_operator_stands_on_the_axis.Goals as goal

pub returns : goal.returns
returns c = large_on_the_axis
