use Rattle.box_pool.proofs.Lookups.{lookup_swept}
use Rattle.box_pool.proofs.laws.a_sweep_keeps_what_is_listed.Goals as goal

pub returns : goal.returns
returns c = lookup_swept
