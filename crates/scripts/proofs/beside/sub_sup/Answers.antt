use Rattle.std.proofs.Common.{◌^◌, arith, lit<, lit≤}
use Rattle.std.proofs.lemmas.Int.{to_z-of_z}
use Rattle.fixed_units.proofs.Within.{natural_in, widened, sum_in, difference_in, max_in, fits_i64}
use Rattle.scripts.specs.Beside.{sub_sup_of}
use Rattle.scripts.proofs.beside.sub_sup.Goals as goal

pub raise-requires-clause-height_in : goal.raise-requires-clause-height_in
raise-requires-clause-height_in c =
    let down = difference_in (natural_in 0) c.pair_shifts-shifts.ensures.within.down in
    let f = fits_i64 c.pair_shifts-shifts.ensures.within.down (lit< tt) in
    let g = fits_i64 down (lit< tt) in
    let w = widened (2 ^ 61) down (lit≤ tt) in
    grind (arith, to_z-of_z)

pub raise-requires-2-clause-height_in : goal.raise-requires-2-clause-height_in
raise-requires-2-clause-height_in c =
    let f = fits_i64 c.pair_shifts-shifts.ensures.within.up (lit< tt) in
    let w = widened (2 ^ 61) c.pair_shifts-shifts.ensures.within.up (lit≤ tt) in
    grind (arith, to_z-of_z)

pub ending_at-requires-clause-end_in : goal.ending_at-requires-clause-end_in
ending_at-requires-clause-end_in c =
    let below = sum_in c.sub_start-below.ensures.within c.requires.sub_fits.width in
    let above = sum_in c.sup_start-above.ensures.within c.requires.sup_fits.width in
    let f = fits_i64 below (lit< tt) in
    let g = fits_i64 above (lit< tt) in
    let h = fits_i64 (max_in below above) (lit< tt) in
    let i = fits_i64 c.sub_start-below.ensures.within (lit< tt) in
    let j = fits_i64 c.sup_start-above.ensures.within (lit< tt) in
    let w = widened (2 ^ 36) (max_in below above) (lit≤ tt) in
    grind (arith, to_z-of_z)

pub overflow_sub-shifts : goal.overflow_sub-shifts
overflow_sub-shifts c =
    let f = fits_i64 c.pair_shifts-shifts.ensures.within.down (lit< tt) in
    let g = fits_i64 (difference_in (natural_in 0) c.pair_shifts-shifts.ensures.within.down) (lit< tt) in
    grind (arith, to_z-of_z)

pub overflow_add-below : goal.overflow_add-below
overflow_add-below c =
    let f = fits_i64 c.sub_start-below.ensures.within (lit< tt) in
    let g = fits_i64 c.requires.sub_fits.width (lit< tt) in
    let h = fits_i64 (sum_in c.sub_start-below.ensures.within c.requires.sub_fits.width) (lit< tt) in
    grind (arith, to_z-of_z)

pub overflow_add-above : goal.overflow_add-above
overflow_add-above c =
    let f = fits_i64 c.sup_start-above.ensures.within (lit< tt) in
    let g = fits_i64 c.requires.sup_fits.width (lit< tt) in
    let h = fits_i64 (sum_in c.sup_start-above.ensures.within c.requires.sup_fits.width) (lit< tt) in
    grind (arith, to_z-of_z)

pub overflow_sub-result : goal.overflow_sub-result
overflow_sub-result c =
    let f = fits_i64 c.pair_shifts-shifts.ensures.within.up (lit< tt) in
    let g = fits_i64 (difference_in (natural_in 0) c.pair_shifts-shifts.ensures.within.up) (lit< tt) in
    grind (arith, to_z-of_z)

pub returns : goal.returns
unfolding sub_sup_of
returns c =
    let shifts = c.pair_shifts-shifts.ensures.within in
    let below = sum_in c.sub_start-below.ensures.within c.requires.sub_fits.width in
    let above = sum_in c.sup_start-above.ensures.within c.requires.sup_fits.width in
    let f = fits_i64 below (lit< tt) in
    let g = fits_i64 above (lit< tt) in
    let h = fits_i64 (max_in below above) (lit< tt) in
    let i = fits_i64 c.sub_start-below.ensures.within (lit< tt) in
    let j = fits_i64 c.sup_start-above.ensures.within (lit< tt) in
    let k = fits_i64 shifts.up (lit< tt) in
    let l = fits_i64 shifts.down (lit< tt) in
    let m = fits_i64 (difference_in (natural_in 0) shifts.up) (lit< tt) in
    let n = fits_i64 (difference_in (natural_in 0) shifts.down) (lit< tt) in
    grind (arith, to_z-of_z)
