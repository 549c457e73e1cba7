use Rattle.glyph_assembly.proofs.Taken.{first_reaching_is}
use Rattle.glyph_assembly.proofs.laws.the_first_that_reaches_is_taken.Goals as goal

pub returns : goal.returns
returns c = first_reaching_is
