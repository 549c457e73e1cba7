use Rattle.std.proofs.Common.{arith, lit<}
use Rattle.std.proofs.lemmas.Int.{to_z-of_z}
use Rattle.fixed_units.proofs.Within.{sum_in, difference_in, half_in, fits_i64}
use Rattle.glyph_assembly.specs.Targets.{centred}
use Rattle.glyph_assembly.proofs.targets.centred.Goals as goal

pub returns : goal.returns
unfolding centred
returns c =
    let ascent = sum_in (half_in c.requires.size_in) c.requires.axis_in in
    let f1 = fits_i64 ascent (lit< tt) in
    let f2 = fits_i64 (difference_in c.requires.size_in ascent) (lit< tt) in
    grind (arith, to_z-of_z)
