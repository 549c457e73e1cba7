use Rattle.glyph_assembly.specs.Counts.{least_count}
use Rattle.glyph_assembly.proofs.LeastCount.{least_count_is_least}
use Rattle.glyph_assembly.proofs.GreatestOverlap.{overlap_is}
use Rattle.glyph_assembly.proofs.laws.an_assembly_reaches_its_target.Goals as goal

pub returns : goal.returns
returns c = λ s t widest grows. (overlap_is s t (least_count s t) widest (least_count_is_least s t grows).enough).reaches
