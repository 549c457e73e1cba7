use Rattle.std.proofs.Common.{◌^◌, arith, lit<, lit≤}
use Rattle.std.proofs.lemmas.Int.{to_z-of_z}
use Rattle.fixed_units.proofs.Within.{natural_in, widened, difference_in, max_in, fits_i64}
use Rattle.multiscripts.specs.Along.{sub_start_of}
use Rattle.multiscripts.proofs.along.Lean.sub_start.Goals as goal

pub overflow_sub-result : goal.overflow_sub-result
overflow_sub-result c =
    let wider = max_in c.requires.fits.sub.width c.requires.fits.sup.width in
    let rest = difference_in wider c.requires.fits.sub.width in
    let f = fits_i64 wider (lit< tt) in
    let g = fits_i64 rest (lit< tt) in
    let h = fits_i64 c.requires.fits.sub.width (lit< tt) in
    grind (arith, to_z-of_z)

pub overflow_sub-result-else-pair : goal.overflow_sub-result-else-pair
overflow_sub-result-else-pair c =
    let f = fits_i64 c.requires.lean_in.back (lit< tt) in
    let g = fits_i64 (difference_in (natural_in 0) c.requires.lean_in.back) (lit< tt) in
    grind (arith, to_z-of_z)

pub returns-then-pair-clause-value : goal.returns-then-pair-clause-value
unfolding sub_start_of
returns-then-pair-clause-value c =
    let wider = max_in c.requires.fits.sub.width c.requires.fits.sup.width in
    let rest = difference_in wider c.requires.fits.sub.width in
    let f = fits_i64 wider (lit< tt) in
    let g = fits_i64 rest (lit< tt) in
    let h = fits_i64 c.requires.fits.sub.width (lit< tt) in
    grind (arith, to_z-of_z)

pub returns-else-pair-clause-value : goal.returns-else-pair-clause-value
unfolding sub_start_of
returns-else-pair-clause-value c =
    let f = fits_i64 c.requires.lean_in.back (lit< tt) in
    let g = fits_i64 (difference_in (natural_in 0) c.requires.lean_in.back) (lit< tt) in
    grind (arith, to_z-of_z)

pub returns-else-pair-clause-within : goal.returns-else-pair-clause-within
returns-else-pair-clause-within c =
    let f = fits_i64 c.requires.lean_in.back (lit< tt) in
    let g = fits_i64 (difference_in (natural_in 0) c.requires.lean_in.back) (lit< tt) in
    let w = widened (2 ^ 31) (difference_in (natural_in 0) c.requires.lean_in.back) (lit≤ tt) in
    grind (arith, to_z-of_z)

pub returns-then-pair-clause-within : goal.returns-then-pair-clause-within
returns-then-pair-clause-within c =
    let wider = max_in c.requires.fits.sub.width c.requires.fits.sup.width in
    let rest = difference_in wider c.requires.fits.sub.width in
    let f = fits_i64 wider (lit< tt) in
    let g = fits_i64 rest (lit< tt) in
    grind (arith, to_z-of_z)
