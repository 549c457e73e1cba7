use Rattle.layout_model.proofs.Counted.{once}
use Rattle.layout_model.proofs.laws.who_is_stretched_asks_each_child_once.Goals as goal

pub returns : goal.returns
returns c = once
