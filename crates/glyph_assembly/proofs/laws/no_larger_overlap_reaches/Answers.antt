use Rattle.glyph_assembly.proofs.GreatestOverlap.{greatest_overlap_is_greatest}
use Rattle.glyph_assembly.proofs.laws.no_larger_overlap_reaches.Goals as goal

pub returns : goal.returns
returns c = greatest_overlap_is_greatest
