use Rattle.std.proofs.Common.{rules, arith, w64, FitsSigned}
use Rattle.std.proofs.lemmas.Int.{to_z-of_z}
use Rattle.glyph_assembly.specs.Pieces.{built_frame}
use Rattle.glyph_assembly.proofs.assembly.built_frame.Goals as goal

pub returns-in-Block-clause-value : goal.returns-in-Block-clause-value
unfolding built_frame
returns-in-Block-clause-value c =
    let width : FitsSigned w64 c.largest-width.result = search rules in
    let half : FitsSigned w64 c.half.result = search rules in
    grind (arith, to_z-of_z)

pub returns-in-Inline-clause-value : goal.returns-in-Inline-clause-value
unfolding built_frame
returns-in-Inline-clause-value c =
    let ascent : FitsSigned w64 c.largest-ink_ascent.result = search rules in
    let descent : FitsSigned w64 c.largest-ink_descent.result = search rules in
    let half : FitsSigned w64 c.half-in-Inline.result = search rules in
    grind (arith, to_z-of_z)
