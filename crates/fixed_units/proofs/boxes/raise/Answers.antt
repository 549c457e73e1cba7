use Rattle.std.proofs.Common.{arith, lit<}
use Rattle.std.proofs.lemmas.Int.{to_z-of_z}
use Rattle.fixed_units.specs.Boxes.{raised}
use Rattle.fixed_units.proofs.Within.{sum_in, difference_in, fits_i64}
use Rattle.fixed_units.proofs.boxes.raise.Goals as goal

pub returns : goal.returns
unfolding raised
returns c =
    let part = c.requires.part_in in
    let height = c.requires.height_in in
    let ascent = fits_i64 (sum_in part.ascent height) (lit< tt) in
    let descent = fits_i64 (difference_in part.descent height) (lit< tt) in
    let ink_ascent = fits_i64 (sum_in part.ink_ascent height) (lit< tt) in
    let ink_descent = fits_i64 (difference_in part.ink_descent height) (lit< tt) in
    grind (arith, to_z-of_z)
