use Rattle.glyph_assembly.proofs.Narrow.{scaled_within}
use Rattle.glyph_assembly.proofs.assembly.measured.Goals as goal

pub returns-in-Advance-clause-within : goal.returns-in-Advance-clause-within
returns-in-Advance-clause-within c =
    scaled_within c.glyph-glyph.result.advance c.scale.result c.glyph-glyph.ensures.within.advance c.scale.ensures.narrow

pub returns-in-InkAscent-clause-within : goal.returns-in-InkAscent-clause-within
returns-in-InkAscent-clause-within c =
    scaled_within c.glyph-glyph.result.ink_ascent c.scale-in-InkAscent.result c.glyph-glyph.ensures.within.ink_ascent c.scale-in-InkAscent.ensures.narrow

pub returns-in-InkDescent-clause-within : goal.returns-in-InkDescent-clause-within
returns-in-InkDescent-clause-within c =
    scaled_within c.glyph-glyph.result.ink_descent c.scale-in-InkDescent.result c.glyph-glyph.ensures.within.ink_descent c.scale-in-InkDescent.ensures.narrow
