use Rattle.std.proofs.Common.{arith, lit<}
use Rattle.std.proofs.lemmas.Int.{to_z-of_z}
use Rattle.fixed_units.proofs.Within.{difference_in, half_in, fits_i64}
use Rattle.scripts.specs.Limits.{under_x_of}
use Rattle.scripts.proofs.limits.under_x.Goals as goal

pub returns-clause-value : goal.returns-clause-value
unfolding under_x_of
returns-clause-value c =
    let middle = c.middle.ensures.within in
    let lean = c.lean.ensures.within in
    let f = fits_i64 middle (lit< tt) in
    let g = fits_i64 lean (lit< tt) in
    let h = fits_i64 (half_in lean) (lit< tt) in
    let i = fits_i64 (difference_in middle (half_in lean)) (lit< tt) in
    grind (arith, to_z-of_z)
