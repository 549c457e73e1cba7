use Rattle.kept_sweep.proofs.Backed.{part_backed_law, part_own_runs_law}
use Rattle.kept_sweep.proofs.laws.a_part_keeps_its_runs.Goals as goal

pub returns-clause-backed : goal.returns-clause-backed
returns-clause-backed c = part_backed_law

pub returns-clause-own : goal.returns-clause-own
returns-clause-own c = part_own_runs_law
