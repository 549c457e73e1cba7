use Rattle.layout_model.proofs.Offsets.{offsets_law}
use Rattle.layout_model.proofs.laws.outcomes_place_all_children.Goals as goal

pub returns : goal.returns
returns c = offsets_law
