use Rattle.std.proofs.Common.{rules, arith, lit<, w64, FitsSigned}
use Rattle.std.proofs.lemmas.Int.{to_z-of_z}
use Rattle.font_metrics.proofs.Scaling.{within64}
use Rattle.glyph_assembly.specs.Glyphs.{glyph_frame}
use Rattle.glyph_assembly.proofs.Narrow.{scaled_within}
use Rattle.glyph_assembly.proofs.glyphs.glyph_frame.Goals as goal

pub returns-clause-value : goal.returns-clause-value
unfolding glyph_frame
returns-clause-value c =
    let f1 : FitsSigned w64 c.scale-width.result = search rules in
    let f2 : FitsSigned w64 c.scale-ink_ascent.result = search rules in
    let f3 : FitsSigned w64 c.scale-ink_descent.result = search rules in
    let f4 : FitsSigned w64 c.scale.result = search rules in
    let f5 : FitsSigned w64 c.accent.result = search rules in
    grind (arith, to_z-of_z)

pub accent-requires-clause-advance_in : goal.accent-requires-clause-advance_in
accent-requires-clause-advance_in c =
    scaled_within c.glyph-glyph.result.advance c.scale-width.result c.glyph-glyph.ensures.within.advance c.scale-width.ensures.narrow

pub returns-clause-within : goal.returns-clause-within
returns-clause-within c =
    let glyph = c.glyph-glyph.ensures.within in
    let ascent = scaled_within c.glyph-glyph.result.ink_ascent c.scale-ink_ascent.result glyph.ink_ascent c.scale-ink_ascent.ensures.narrow in
    let descent = scaled_within c.glyph-glyph.result.ink_descent c.scale-ink_descent.result glyph.ink_descent c.scale-ink_descent.ensures.narrow in
    record {
      width = scaled_within c.glyph-glyph.result.advance c.scale-width.result glyph.advance c.scale-width.ensures.narrow;
      ascent = ascent;
      descent = descent;
      ink_ascent = ascent;
      ink_descent = descent;
      italic = scaled_within c.glyph-glyph.result.italic c.scale.result glyph.italic c.scale.ensures.narrow;
      accent = within64 c.accent.ensures.within (lit< tt);
    }
