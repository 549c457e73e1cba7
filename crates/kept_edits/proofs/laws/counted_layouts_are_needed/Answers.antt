use Rattle.kept_edits.proofs.ToldById.{need_law}
use Rattle.kept_edits.proofs.laws.counted_layouts_are_needed.Goals as goal

pub returns : goal.returns
returns c = need_law
