use Rattle.std.proofs.Common.{arith, lit<}
use Rattle.std.proofs.lemmas.Int.{to_z-of_z}
use Rattle.fixed_units.proofs.Within.{difference_in, half_in, fits_i64}
use Rattle.scripts.specs.Limits.{middle_of}
use Rattle.scripts.proofs.limits.middle.Goals as goal

pub overflow_sub-base : goal.overflow_sub-base
overflow_sub-base c =
    let f = fits_i64 c.requires.base_fits.width (lit< tt) in
    let g = fits_i64 c.requires.part_fits.width (lit< tt) in
    let h = fits_i64 (difference_in c.requires.base_fits.width c.requires.part_fits.width) (lit< tt) in
    grind (arith, to_z-of_z)

pub returns-clause-value : goal.returns-clause-value
unfolding middle_of
returns-clause-value c =
    let f = fits_i64 c.requires.base_fits.width (lit< tt) in
    let g = fits_i64 c.requires.part_fits.width (lit< tt) in
    let h = fits_i64 (difference_in c.requires.base_fits.width c.requires.part_fits.width) (lit< tt) in
    let i = fits_i64 (half_in (difference_in c.requires.base_fits.width c.requires.part_fits.width)) (lit< tt) in
    grind (arith, to_z-of_z)
