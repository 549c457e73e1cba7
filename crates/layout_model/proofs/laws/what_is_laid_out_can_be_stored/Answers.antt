use Rattle.layout_model.proofs.LaidTrees.{stored_law}
use Rattle.layout_model.proofs.laws.what_is_laid_out_can_be_stored.Goals as goal

pub returns : goal.returns
returns c = stored_law
