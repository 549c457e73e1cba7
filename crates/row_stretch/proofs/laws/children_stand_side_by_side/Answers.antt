use Rattle.row_stretch.proofs.SideBySide.{stand_side_by_side}
use Rattle.row_stretch.proofs.laws.children_stand_side_by_side.Goals as goal

pub returns : goal.returns
returns c = stand_side_by_side
