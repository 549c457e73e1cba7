use Rattle.embellished.proofs.ElementLaws.{children_counted}
use Rattle.embellished.proofs.laws.valid_elements_have_their_children.Goals as goal

pub returns : goal.returns
returns c = children_counted
