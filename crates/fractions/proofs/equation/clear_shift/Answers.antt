use Rattle.std.proofs.Common.{arith, lit<}
use Rattle.std.proofs.lemmas.Int.{to_z-of_z}
use Rattle.fixed_units.proofs.Within.{sum_in, fits_i64}
use Rattle.fractions.specs.Equation.{clear_shift_of}
use Rattle.fractions.proofs.equation.clear_shift.Goals as goal

pub returns : goal.returns
unfolding clear_shift_of
returns c =
    let ink = sum_in c.requires.gap_in c.requires.ink_in in
    let f = fits_i64 ink (lit< tt) in
    let g = fits_i64 (sum_in ink c.requires.edge_in) (lit< tt) in
    grind (arith, to_z-of_z)
