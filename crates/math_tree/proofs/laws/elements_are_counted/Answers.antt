use Rattle.math_tree.proofs.Counts.{counted}
use Rattle.math_tree.proofs.laws.elements_are_counted.Goals as goal

pub returns : goal.returns
returns c = counted
