use Rattle.layout_model.proofs.LeftToRight.{left_to_right}
use Rattle.layout_model.proofs.laws.without_a_direction_nothing_is_mirrored.Goals as goal

pub returns : goal.returns
returns c = left_to_right
