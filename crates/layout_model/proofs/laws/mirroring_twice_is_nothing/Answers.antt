use Rattle.layout_model.proofs.Direction.{twice}
use Rattle.layout_model.proofs.laws.mirroring_twice_is_nothing.Goals as goal

pub returns : goal.returns
returns c = twice
