use Rattle.kept_results.proofs.Law.{closed_law}
use Rattle.kept_results.proofs.laws.closed_entries_keep_layouts.Goals as goal

pub returns : goal.returns
returns c = closed_law
