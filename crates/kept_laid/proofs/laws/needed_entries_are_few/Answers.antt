use Rattle.kept_laid.proofs.Few.{few_law}
use Rattle.kept_laid.proofs.laws.needed_entries_are_few.Goals as goal

pub returns : goal.returns
returns c = few_law
