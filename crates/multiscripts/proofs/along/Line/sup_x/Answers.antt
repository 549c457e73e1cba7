use Rattle.std.proofs.Common.{arith, lit<}
use Rattle.std.proofs.lemmas.Int.{to_z-of_z}
use Rattle.fixed_units.proofs.Within.{sum_in, fits_i64}
use Rattle.multiscripts.proofs.along.Line.sup_x.Goals as goal

pub returns : goal.returns
returns c =
    let f = fits_i64 c.room_x.ensures.within (lit< tt) in
    let g = fits_i64 c.sup_start.ensures.within (lit< tt) in
    let h = fits_i64 (sum_in c.room_x.ensures.within c.sup_start.ensures.within) (lit< tt) in
    grind (arith, to_z-of_z)
