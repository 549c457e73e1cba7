use Rattle.std.proofs.Common.{arith, lit<}
use Rattle.std.proofs.lemmas.Int.{to_z-of_z}
use Rattle.fixed_units.proofs.Within.{natural_in, sum_in, difference_in, fits_i64}
use Rattle.scripts.specs.Beside.{sub_of}
use Rattle.scripts.proofs.beside.sub.Goals as goal

pub overflow_sub-down : goal.overflow_sub-down
overflow_sub-down c =
    let f = fits_i64 c.sub_shift-down.ensures.within (lit< tt) in
    let g = fits_i64 (difference_in (natural_in 0) c.sub_shift-down.ensures.within) (lit< tt) in
    grind (arith, to_z-of_z)

pub overflow_add-x : goal.overflow_add-x
overflow_add-x c =
    let f = fits_i64 c.sub_start-x.ensures.within (lit< tt) in
    let g = fits_i64 c.requires.script_fits.width (lit< tt) in
    let h = fits_i64 (sum_in c.sub_start-x.ensures.within c.requires.script_fits.width) (lit< tt) in
    grind (arith, to_z-of_z)

pub returns : goal.returns
unfolding sub_of
returns c =
    let down = c.sub_shift-down.ensures.within in
    let x = c.sub_start-x.ensures.within in
    let f = fits_i64 down (lit< tt) in
    let g = fits_i64 x (lit< tt) in
    let h = fits_i64 (difference_in (natural_in 0) down) (lit< tt) in
    let i = fits_i64 (sum_in x c.requires.script_fits.width) (lit< tt) in
    grind (arith, to_z-of_z)
