use Rattle.kept_edits.proofs.IdWays.{one_way_law}
use Rattle.kept_edits.proofs.laws.there_is_one_way_to_an_id.Goals as goal

pub returns : goal.returns
returns c = one_way_law
