use Rattle.glyph_assembly.proofs.LeastCount.{least_count_is_least}
use Rattle.glyph_assembly.proofs.laws.no_smaller_count_reaches.Goals as goal

pub returns : goal.returns
returns c = least_count_is_least
