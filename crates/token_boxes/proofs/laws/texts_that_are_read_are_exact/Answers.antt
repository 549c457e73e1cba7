use Rattle.token_boxes.proofs.Words.{width_at_most}
use Rattle.token_boxes.proofs.laws.texts_that_are_read_are_exact.Goals as goal

pub returns : goal.returns
returns c = λ m size letters taken low high few. width_at_most m size letters taken low high few
