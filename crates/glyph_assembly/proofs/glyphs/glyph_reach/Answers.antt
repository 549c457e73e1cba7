use Rattle.std.proofs.Common.{◌^◌, arith, lit<, lit≤}
use Rattle.std.proofs.lemmas.Int.{to_z-of_z}
use Rattle.fixed_units.proofs.Within.{sum_in, widened, fits_i64}
use Rattle.font_metrics.proofs.Scaling.{within64}
use Rattle.glyph_assembly.specs.Glyphs.{glyph_reach}
use Rattle.glyph_assembly.proofs.glyphs.glyph_reach.Goals as goal

pub returns-in-Block-clause-value : goal.returns-in-Block-clause-value
unfolding glyph_reach
returns-in-Block-clause-value c =
    let f = fits_i64 (sum_in c.scale.ensures.within c.scale-in-Block.ensures.within) (lit< tt) in
    grind (arith, to_z-of_z)

pub returns-in-Block-clause-within : goal.returns-in-Block-clause-within
returns-in-Block-clause-within c =
    let ascent = c.scale.ensures.narrow (within64 c.glyph-glyph.ensures.within.ink_ascent (lit< tt)) in
    let descent = c.scale-in-Block.ensures.narrow (within64 c.glyph-glyph.ensures.within.ink_descent (lit< tt)) in
    let s = sum_in ascent descent in
    let f = fits_i64 s (lit< tt) in
    grind (arith, to_z-of_z)

pub returns-in-Inline-clause-value : goal.returns-in-Inline-clause-value
unfolding glyph_reach
returns-in-Inline-clause-value c =
    grind (arith, to_z-of_z)

pub returns-in-Inline-clause-within : goal.returns-in-Inline-clause-within
returns-in-Inline-clause-within c =
    let advance = c.scale-in-Inline.ensures.narrow (within64 c.glyph-glyph.ensures.within.advance (lit< tt)) in
    within64 (widened (2 ^ 33) advance (lit≤ tt)) (lit< tt)
