use Rattle.std.proofs.Common.{◌^◌, arith, lit<, lit≤}
use Rattle.std.proofs.lemmas.Int.{to_z-of_z}
use Rattle.fixed_units.proofs.Within.{natural_in, widened, difference_in, max_in, fits_i64}
use Rattle.scripts.specs.Kerns.{sub_kern_of}
use Rattle.scripts.proofs.kerns.sub_kern.Goals as goal

pub returns-clause-value : goal.returns-clause-value
unfolding sub_kern_of
returns-clause-value c =
    let at_sub = c.kerns_meeting-at_sub.ensures.within in
    let at_base = c.kerns_meeting-at_base.ensures.within in
    let f = fits_i64 at_sub (lit< tt) in
    let g = fits_i64 at_base (lit< tt) in
    let h = fits_i64 (max_in at_sub at_base) (lit< tt) in
    let i = fits_i64 c.requires.down_in (lit< tt) in
    let j = fits_i64 (difference_in (natural_in 0) c.requires.down_in) (lit< tt) in
    let k = fits_i64 c.requires.sub_fits.ink_ascent (lit< tt) in
    let l = fits_i64 (difference_in c.requires.sub_fits.ink_ascent c.requires.down_in) (lit< tt) in
    let m = fits_i64 c.requires.base_fits.ink_descent (lit< tt) in
    let n = fits_i64 (difference_in (natural_in 0) c.requires.base_fits.ink_descent) (lit< tt) in
    grind (arith, to_z-of_z)

pub returns-clause-within : goal.returns-clause-within
returns-clause-within c =
    let at_sub = c.kerns_meeting-at_sub.ensures.within in
    let at_base = c.kerns_meeting-at_base.ensures.within in
    let f = fits_i64 at_sub (lit< tt) in
    let g = fits_i64 at_base (lit< tt) in
    let h = fits_i64 (max_in at_sub at_base) (lit< tt) in
    let w = widened (2 ^ 33) (max_in at_sub at_base) (lit≤ tt) in
    grind (arith, to_z-of_z)
