use Rattle.box_pool.proofs.Lookups.{swept_count}
use Rattle.box_pool.proofs.laws.a_sweep_counts_what_is_listed.Goals as goal

pub returns : goal.returns
returns c = swept_count
