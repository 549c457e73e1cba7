use Rattle.std.proofs.Common.{arith, lit<}
use Rattle.std.proofs.lemmas.Int.{to_z-of_z}
use Rattle.fixed_units.proofs.Within.{natural_in, sum_in, difference_in, fits_i64}
use Rattle.scripts.specs.Beside.{sup_of}
use Rattle.scripts.proofs.beside.sup.Goals as goal

pub returns : goal.returns
unfolding sup_of
returns c =
    let up = c.sup_shift-up.ensures.within in
    let x = c.sup_start-x.ensures.within in
    let f = fits_i64 up (lit< tt) in
    let g = fits_i64 x (lit< tt) in
    let h = fits_i64 (difference_in (natural_in 0) up) (lit< tt) in
    let i = fits_i64 (sum_in x c.requires.script_fits.width) (lit< tt) in
    grind (arith, to_z-of_z)
