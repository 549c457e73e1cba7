use Rattle.std.proofs.Common.{◌^◌, arith, lit<, lit≤}
use Rattle.std.proofs.lemmas.Int.{to_z-of_z}
use Rattle.fixed_units.proofs.Within.{widened, difference_in, max_in, fits_i64}
use Rattle.scripts.specs.Kerns.{sup_kern_of}
use Rattle.scripts.proofs.kerns.sup_kern.Goals as goal

pub returns-clause-value : goal.returns-clause-value
unfolding sup_kern_of
returns-clause-value c =
    let at_sup = c.kerns_meeting-at_sup.ensures.within in
    let at_base = c.kerns_meeting-at_base.ensures.within in
    let f = fits_i64 at_sup (lit< tt) in
    let g = fits_i64 at_base (lit< tt) in
    let h = fits_i64 (max_in at_sup at_base) (lit< tt) in
    let i = fits_i64 c.requires.up_in (lit< tt) in
    let j = fits_i64 c.requires.sup_fits.ink_descent (lit< tt) in
    let k = fits_i64 (difference_in c.requires.up_in c.requires.sup_fits.ink_descent) (lit< tt) in
    let l = fits_i64 c.requires.base_fits.ink_ascent (lit< tt) in
    grind (arith, to_z-of_z)

pub returns-clause-within : goal.returns-clause-within
returns-clause-within c =
    let at_sup = c.kerns_meeting-at_sup.ensures.within in
    let at_base = c.kerns_meeting-at_base.ensures.within in
    let f = fits_i64 at_sup (lit< tt) in
    let g = fits_i64 at_base (lit< tt) in
    let h = fits_i64 (max_in at_sup at_base) (lit< tt) in
    let w = widened (2 ^ 33) (max_in at_sup at_base) (lit≤ tt) in
    grind (arith, to_z-of_z)
