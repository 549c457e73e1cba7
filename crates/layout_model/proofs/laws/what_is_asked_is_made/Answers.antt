use Rattle.layout_model.proofs.Trees.{visits_law}
use Rattle.layout_model.proofs.laws.what_is_asked_is_made.Goals as goal

pub returns : goal.returns
returns c = visits_law
