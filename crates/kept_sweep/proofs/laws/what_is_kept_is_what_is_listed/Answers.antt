use Rattle.kept_sweep.proofs.Listed.{kept_visits}
use Rattle.kept_sweep.proofs.laws.what_is_kept_is_what_is_listed.Goals as goal

pub returns : goal.returns
returns c = kept_visits
