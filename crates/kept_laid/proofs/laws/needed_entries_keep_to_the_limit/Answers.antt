use Rattle.kept_laid.proofs.Few.{limit_law}
use Rattle.kept_laid.proofs.laws.needed_entries_keep_to_the_limit.Goals as goal

pub returns : goal.returns
returns c = limit_law
