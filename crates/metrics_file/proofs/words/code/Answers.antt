use Rattle.metrics_file.specs.Words.{code_of}
use Rattle.metrics_file.proofs.words.code.Goals as goal

pub returns : goal.returns
unfolding code_of
returns c = c.numeral.ensures.value
