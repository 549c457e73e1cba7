use Rattle.std.proofs.Common.{arith, lit<}
use Rattle.std.proofs.lemmas.Int.{to_z-of_z}
use Rattle.fixed_units.proofs.Within.{natural_in, sum_in, difference_in, half_in, fits_i64}
use Rattle.fractions.specs.Placing.{centred_of}
use Rattle.fractions.proofs.placing.centred.Goals as goal

pub returns : goal.returns
unfolding centred_of
returns c =
    let room = difference_in c.requires.inner_in c.requires.width_in in
    let f = fits_i64 room (lit< tt) in
    let g = fits_i64 (sum_in (natural_in 1024) (half_in room)) (lit< tt) in
    grind (arith, to_z-of_z)
