use Rattle.kept_results.proofs.Whole.{kept_law}
use Rattle.kept_results.proofs.laws.what_a_layout_needs_is_kept.Goals as goal

pub returns : goal.returns
returns c = kept_law
