use Rattle.std.proofs.Common.{arith, lit<}
use Rattle.std.proofs.lemmas.Int.{to_z-of_z}
use Rattle.fixed_units.proofs.Within.{natural_in, difference_in, fits_i64}
use Rattle.scripts.specs.Limits.{limits_of}
use Rattle.scripts.proofs.limits.limits.Goals as goal

pub returns : goal.returns
unfolding limits_of
returns c =
    let start = c.requires.extent_in.start in
    let f = fits_i64 start (lit< tt) in
    let g = fits_i64 c.requires.extent_in.end (lit< tt) in
    let h = fits_i64 (difference_in c.requires.extent_in.end start) (lit< tt) in
    let i = fits_i64 (difference_in c.requires.base_fits.accent start) (lit< tt) in
    let j = fits_i64 (difference_in (natural_in 0) start) (lit< tt) in
    grind (arith, to_z-of_z)
