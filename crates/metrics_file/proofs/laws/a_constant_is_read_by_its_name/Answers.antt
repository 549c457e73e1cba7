use Rattle.metrics_file.proofs.FileLaws.{name_is_read}
use Rattle.metrics_file.proofs.laws.a_constant_is_read_by_its_name.Goals as goal

pub returns : goal.returns
returns c = name_is_read
