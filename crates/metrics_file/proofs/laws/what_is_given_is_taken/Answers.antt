use Rattle.metrics_file.proofs.FileLaws.{what_is_given_is_taken as taken}
use Rattle.metrics_file.proofs.laws.what_is_given_is_taken.Goals as goal

pub returns : goal.returns
returns c = taken
