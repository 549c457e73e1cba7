use Rattle.std.proofs.Common.{◌^◌, arith, lit<, lit≤}
use Rattle.std.proofs.lemmas.Int.{to_z-of_z}
use Rattle.fixed_units.proofs.Within.{widened, sum_in, fits_i64}
use Rattle.scripts.proofs.beside.sup_start.Goals as goal

pub overflow_add-result : goal.overflow_add-result
overflow_add-result c =
    let f = fits_i64 c.sup_x.ensures.within (lit< tt) in
    let g = fits_i64 c.sup_kern.ensures.within (lit< tt) in
    let h = fits_i64 (sum_in c.sup_x.ensures.within c.sup_kern.ensures.within) (lit< tt) in
    grind (arith, to_z-of_z)

pub returns-clause-value : goal.returns-clause-value
returns-clause-value c =
    let f = fits_i64 c.sup_x.ensures.within (lit< tt) in
    let g = fits_i64 c.sup_kern.ensures.within (lit< tt) in
    let h = fits_i64 (sum_in c.sup_x.ensures.within c.sup_kern.ensures.within) (lit< tt) in
    grind (arith, to_z-of_z)

pub returns-clause-within : goal.returns-clause-within
returns-clause-within c =
    let f = fits_i64 c.sup_x.ensures.within (lit< tt) in
    let g = fits_i64 c.sup_kern.ensures.within (lit< tt) in
    let h = fits_i64 (sum_in c.sup_x.ensures.within c.sup_kern.ensures.within) (lit< tt) in
    let w = widened (2 ^ 34) (sum_in c.sup_x.ensures.within c.sup_kern.ensures.within) (lit≤ tt) in
    grind (arith, to_z-of_z)
