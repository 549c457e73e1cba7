use Rattle.std.proofs.Common.{arith, lit<}
use Rattle.std.proofs.lemmas.Int.{to_z-of_z}
use Rattle.fixed_units.proofs.Within.{sum_in, fits_i64}
use Rattle.scripts.specs.Beside.{ending_at_of}
use Rattle.scripts.proofs.beside.ending_at.Goals as goal

pub returns : goal.returns
unfolding ending_at_of
returns c =
    let f = fits_i64 (sum_in c.requires.end_in c.constant.ensures.within) (lit< tt) in
    grind (arith, to_z-of_z)
