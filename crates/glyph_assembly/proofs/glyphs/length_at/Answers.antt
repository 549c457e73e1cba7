use Rattle.std.proofs.Common.{arith}
use Rattle.std.proofs.lemmas.Int.{to_z-of_z}
use Rattle.glyph_assembly.specs.Glyphs.{length_at}
use Rattle.glyph_assembly.proofs.glyphs.length_at.Goals as goal

pub returns-clause-value : goal.returns-clause-value
unfolding length_at
returns-clause-value c = grind (arith, to_z-of_z)
