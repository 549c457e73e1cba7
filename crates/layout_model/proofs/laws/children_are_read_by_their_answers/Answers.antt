use Rattle.layout_model.proofs.Made.{reads}
use Rattle.layout_model.proofs.laws.children_are_read_by_their_answers.Goals as goal

pub returns : goal.returns
returns c = reads
