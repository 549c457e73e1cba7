use Rattle.kept_results.proofs.Sealing.{seal_backed_law, seal_law, seal_own_runs_law}
use Rattle.kept_results.proofs.laws.seal_keeps_the_state.Goals as goal

pub returns-clause-state : goal.returns-clause-state
returns-clause-state c = seal_law

pub returns-clause-backed : goal.returns-clause-backed
returns-clause-backed c = seal_backed_law

pub returns-clause-own : goal.returns-clause-own
returns-clause-own c = seal_own_runs_law
