use Rattle.token_boxes.proofs.Leaves.{stored_as_made, stored_as_defined}
use Rattle.token_boxes.proofs.laws.what_can_be_stored_is_exact.Goals as goal

pub returns-clause-made : goal.returns-clause-made
returns-clause-made c = stored_as_made

pub returns-clause-defined : goal.returns-clause-defined
returns-clause-defined c = stored_as_defined
