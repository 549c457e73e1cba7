use Rattle.std.proofs.Common.{arith, lit<}
use Rattle.std.proofs.lemmas.Int.{to_z-of_z}
use Rattle.fixed_units.proofs.Within.{natural_in, sum_in, difference_in, max_in, fits_i64}
use Rattle.fractions.specs.Placing.{placed_of}
use Rattle.fractions.proofs.placing.placed.Goals as goal

pub centred-requires-clause-inner_in : goal.centred-requires-clause-inner_in
centred-requires-clause-inner_in c =
    let inner = max_in c.requires.top_fits.width c.requires.bottom_fits.width in
    let f = fits_i64 inner (lit< tt) in
    grind (arith, to_z-of_z)

pub centred-requires-2-clause-inner_in : goal.centred-requires-2-clause-inner_in
centred-requires-2-clause-inner_in c =
    let inner = max_in c.requires.top_fits.width c.requires.bottom_fits.width in
    let f = fits_i64 inner (lit< tt) in
    grind (arith, to_z-of_z)

pub returns : goal.returns
unfolding placed_of
returns c =
    let inner = max_in c.requires.top_fits.width c.requires.bottom_fits.width in
    let f = fits_i64 inner (lit< tt) in
    let g = fits_i64 (sum_in inner (natural_in 2048)) (lit< tt) in
    let h = fits_i64 (difference_in (natural_in 0) c.requires.shifts_in.up) (lit< tt) in
    let i = fits_i64 (difference_in (natural_in 0) c.requires.shifts_in.down) (lit< tt) in
    grind (arith, to_z-of_z)
