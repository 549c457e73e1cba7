use Rattle.kept_edits.proofs.IdWays.{ids_law}
use Rattle.kept_edits.proofs.laws.needed_layouts_are_told_by_ids.Goals as goal

pub returns : goal.returns
returns c = ids_law
