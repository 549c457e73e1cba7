use Rattle.layout_model.proofs.Made.{made}
use Rattle.layout_model.proofs.laws.what_is_made_is_what_is_asked.Goals as goal

pub returns : goal.returns
returns c = made
