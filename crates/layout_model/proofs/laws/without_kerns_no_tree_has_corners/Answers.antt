use Rattle.layout_model.proofs.Cornerless.{without_corners}
use Rattle.layout_model.proofs.laws.without_kerns_no_tree_has_corners.Goals as goal

pub returns : goal.returns
returns c = without_corners
