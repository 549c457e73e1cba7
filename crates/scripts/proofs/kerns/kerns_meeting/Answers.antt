use Rattle.std.proofs.Common.{arith, lit<}
use Rattle.std.proofs.lemmas.Int.{to_z-of_z}
use Rattle.fixed_units.proofs.Within.{sum_in, difference_in, fits_i64}
use Rattle.scripts.proofs.kerns.kerns_meeting.Goals as goal

pub returns-clause-value : goal.returns-clause-value
returns-clause-value c =
    let f = fits_i64 c.corner_kern.ensures.within (lit< tt) in
    let g = fits_i64 c.corner_kern-2.ensures.within (lit< tt) in
    let h = fits_i64 (sum_in c.corner_kern.ensures.within c.corner_kern-2.ensures.within) (lit< tt) in
    let i = fits_i64 c.requires.height_in (lit< tt) in
    let j = fits_i64 c.requires.raised_in (lit< tt) in
    let k = fits_i64 (difference_in c.requires.height_in c.requires.raised_in) (lit< tt) in
    grind (arith, to_z-of_z)
