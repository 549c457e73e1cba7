use Rattle.std.proofs.Common.{◌^◌, arith, lit<, sym, subst}
use Rattle.std.proofs.lemmas.Int.{to_z-of_z}
use Rattle.fixed_units.proofs.Within.{natural_in, sum_in, difference_in, max_in, half_in, fits_i64}
use Rattle.fractions.specs.Equation.{lack_of, stack_shifts_of, AreShiftsWithin}
use Rattle.fractions.proofs.Bounds.{stack_shifts_in}
use Rattle.fractions.proofs.equation.stack_shifts.Goals as goal

pub overflow_sub-font : goal.overflow_sub-font
overflow_sub-font c =
    let up = difference_in c.requires.font_in.shift_up c.requires.top_fits.ink_descent in
    let down = difference_in c.requires.font_in.shift_down c.requires.bottom_fits.ink_ascent in
    let f = fits_i64 up (lit< tt) in
    let g = fits_i64 down (lit< tt) in
    let h = fits_i64 (sum_in up down) (lit< tt) in
    let i = fits_i64 (difference_in c.requires.font_in.gap (sum_in up down)) (lit< tt) in
    grind (arith, to_z-of_z)

pub returns-clause-value : goal.returns-clause-value
unfolding stack_shifts_of lack_of
returns-clause-value c =
    let up = difference_in c.requires.font_in.shift_up c.requires.top_fits.ink_descent in
    let down = difference_in c.requires.font_in.shift_down c.requires.bottom_fits.ink_ascent in
    let missing = difference_in c.requires.font_in.gap (sum_in up down) in
    let lack = max_in missing (natural_in 0) in
    let f = fits_i64 up (lit< tt) in
    let g = fits_i64 down (lit< tt) in
    let h = fits_i64 (sum_in up down) (lit< tt) in
    let i = fits_i64 missing (lit< tt) in
    let j = fits_i64 lack (lit< tt) in
    let k = fits_i64 (sum_in c.requires.font_in.shift_up (half_in lack)) (lit< tt) in
    let l = fits_i64 (difference_in lack (half_in lack)) (lit< tt) in
    let m = fits_i64 (sum_in c.requires.font_in.shift_down (difference_in lack (half_in lack))) (lit< tt) in
    grind (arith, to_z-of_z)

pub returns-clause-within : goal.returns-clause-within
returns-clause-within c =
    subst (AreShiftsWithin (2 ^ 61)) (sym (returns-clause-value c))
    (stack_shifts_in _ _ _ c.requires.font_in c.requires.top_fits c.requires.bottom_fits)
