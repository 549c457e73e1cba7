use Rattle.std.proofs.Common.{◌^◌, arith, lit<, lit≤}
use Rattle.std.proofs.lemmas.Int.{to_z-of_z}
use Rattle.fixed_units.specs.Boxes.{raised}
use Rattle.fixed_units.proofs.Within.{natural_in, widened, sum_in, difference_in, fits_i64}
use Rattle.scripts.specs.Limits.{under_limit_of}
use Rattle.scripts.proofs.limits.under_limit.Goals as goal

pub overflow_sub-depth : goal.overflow_sub-depth
overflow_sub-depth c =
    let depth = c.distance-depth.ensures.within in
    let f = fits_i64 depth (lit< tt) in
    let g = fits_i64 (difference_in (natural_in 0) depth) (lit< tt) in
    grind (arith, to_z-of_z)

pub overflow_sub-result : goal.overflow_sub-result
overflow_sub-result c =
    let depth = c.distance-depth.ensures.within in
    let f = fits_i64 depth (lit< tt) in
    let g = fits_i64 (difference_in (natural_in 0) depth) (lit< tt) in
    grind (arith, to_z-of_z)

pub overflow_add-result : goal.overflow_add-result
unfolding raised
overflow_add-result c =
    let depth = c.distance-depth.ensures.within in
    let height = difference_in (natural_in 0) depth in
    let extra = c.extra.ensures.within in
    let descent = difference_in c.requires.under_fits.descent height in
    let f = fits_i64 depth (lit< tt) in
    let g = fits_i64 height (lit< tt) in
    let h = fits_i64 descent (lit< tt) in
    let i = fits_i64 extra (lit< tt) in
    let j = fits_i64 (sum_in descent extra) (lit< tt) in
    grind (arith, to_z-of_z)

pub returns-clause-value : goal.returns-clause-value
unfolding under_limit_of raised
returns-clause-value c =
    let depth = c.distance-depth.ensures.within in
    let height = difference_in (natural_in 0) depth in
    let extra = c.extra.ensures.within in
    let descent = difference_in c.requires.under_fits.descent height in
    let e = fits_i64 c.under_x.ensures.within (lit< tt) in
    let f = fits_i64 depth (lit< tt) in
    let g = fits_i64 height (lit< tt) in
    let h = fits_i64 descent (lit< tt) in
    let i = fits_i64 extra (lit< tt) in
    let j = fits_i64 (sum_in descent extra) (lit< tt) in
    grind (arith, to_z-of_z)

pub returns-clause-within : goal.returns-clause-within
unfolding raised
returns-clause-within c =
    let depth = c.distance-depth.ensures.within in
    let height = difference_in (natural_in 0) depth in
    let e = fits_i64 c.under_x.ensures.within (lit< tt) in
    let f = fits_i64 depth (lit< tt) in
    let g = fits_i64 height (lit< tt) in
    let x = widened (2 ^ 36) c.under_x.ensures.within (lit≤ tt) in
    let y = widened (2 ^ 36) height (lit≤ tt) in
    let w = widened (2 ^ 36) c.requires.under_fits.width (lit≤ tt) in
    record { x = grind (arith, to_z-of_z); height = grind (arith, to_z-of_z); width = grind (arith, to_z-of_z) }
