use Rattle.box_pool.proofs.Lookups.{lookup_put_same, lookup_put_other}
use Rattle.box_pool.proofs.laws.a_put_adds_one_run.Goals as goal

pub returns : goal.returns
returns c = λ runs id piece none. record { new = lookup_put_same runs id piece none; others = λ other differs. lookup_put_other runs id other piece differs }
