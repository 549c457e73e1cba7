use Rattle.embellished.proofs.ElementLaws.{none_is_both}
use Rattle.embellished.proofs.laws.no_element_is_space_like_and_embellished.Goals as goal

pub returns : goal.returns
returns c = none_is_both
