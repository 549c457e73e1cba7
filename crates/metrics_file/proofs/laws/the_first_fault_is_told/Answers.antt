use Rattle.metrics_file.proofs.FileLaws.{fault_is_first}
use Rattle.metrics_file.proofs.laws.the_first_fault_is_told.Goals as goal

pub returns : goal.returns
returns c = fault_is_first
