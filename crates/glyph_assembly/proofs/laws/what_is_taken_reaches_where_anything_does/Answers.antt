use Rattle.glyph_assembly.proofs.Chosen.{chosen}
use Rattle.glyph_assembly.proofs.laws.what_is_taken_reaches_where_anything_does.Goals as goal

pub returns : goal.returns
returns c = chosen
