use Rattle.metrics_file.proofs.FileLaws.{metrics_are_said}
use Rattle.metrics_file.proofs.laws.metrics_are_what_lines_say.Goals as goal

pub returns : goal.returns
returns c = metrics_are_said
