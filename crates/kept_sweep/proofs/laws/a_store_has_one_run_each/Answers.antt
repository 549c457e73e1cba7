use Rattle.kept_sweep.proofs.Stored.{enough_runs_law, one_run_each_law}
use Rattle.kept_sweep.proofs.laws.a_store_has_one_run_each.Goals as goal

pub returns-clause-enough : goal.returns-clause-enough
returns-clause-enough c = enough_runs_law

pub returns-clause-one : goal.returns-clause-one
returns-clause-one c = one_run_each_law
