use Rattle.std.proofs.Common.{◌^◌, arith, lit<, sym, subst}
use Rattle.std.proofs.lemmas.Int.{to_z-of_z}
use Rattle.fixed_units.proofs.Within.{natural_in, sum_in, difference_in, max_in, min_in, fits_i64}
use Rattle.scripts.specs.Shifts.{lack_of, rise_of, moved_apart_of, AreShiftsWithin}
use Rattle.scripts.proofs.Bounds.{moved_apart_in}
use Rattle.scripts.proofs.shifts.moved_apart.Goals as goal

pub overflow_sub-bottom : goal.overflow_sub-bottom
overflow_sub-bottom c =
    let font = c.requires.font_in in
    let shifts = c.requires.shifts_in in
    let bottom = difference_in shifts.up c.requires.sup_fits.ink_descent in
    let f = fits_i64 bottom (lit< tt) in
    grind (arith, to_z-of_z)

pub overflow_sub-top : goal.overflow_sub-top
overflow_sub-top c =
    let shifts = c.requires.shifts_in in
    let top = difference_in c.requires.sub_fits.ink_ascent shifts.down in
    let f = fits_i64 top (lit< tt) in
    grind (arith, to_z-of_z)

pub overflow_sub-bottom-2 : goal.overflow_sub-bottom-2
overflow_sub-bottom-2 c =
    let font = c.requires.font_in in
    let shifts = c.requires.shifts_in in
    let bottom = difference_in shifts.up c.requires.sup_fits.ink_descent in
    let top = difference_in c.requires.sub_fits.ink_ascent shifts.down in
    let f = fits_i64 bottom (lit< tt) in
    let g = fits_i64 top (lit< tt) in
    let h = fits_i64 (difference_in bottom top) (lit< tt) in
    grind (arith, to_z-of_z)

pub overflow_sub-font-2 : goal.overflow_sub-font-2
overflow_sub-font-2 c =
    let font = c.requires.font_in in
    let shifts = c.requires.shifts_in in
    let bottom = difference_in shifts.up c.requires.sup_fits.ink_descent in
    let f = fits_i64 bottom (lit< tt) in
    let g = fits_i64 (difference_in font.bottom_max bottom) (lit< tt) in
    grind (arith, to_z-of_z)

pub overflow_sub-result : goal.overflow_sub-result
overflow_sub-result c =
    let font = c.requires.font_in in
    let shifts = c.requires.shifts_in in
    let bottom = difference_in shifts.up c.requires.sup_fits.ink_descent in
    let top = difference_in c.requires.sub_fits.ink_ascent shifts.down in
    let short = difference_in font.gap (difference_in bottom top) in
    let f = fits_i64 bottom (lit< tt) in
    let g = fits_i64 top (lit< tt) in
    let h = fits_i64 (difference_in bottom top) (lit< tt) in
    let i = fits_i64 short (lit< tt) in
    let lack = max_in short (natural_in 0) in
    let room = difference_in font.bottom_max bottom in
    let rise = max_in (min_in room lack) (natural_in 0) in
    let j = fits_i64 room (lit< tt) in
    let k = fits_i64 (sum_in shifts.up rise) (lit< tt) in
    let l = fits_i64 (difference_in lack rise) (lit< tt) in
    let m = fits_i64 (sum_in shifts.down (difference_in lack rise)) (lit< tt) in
    grind (arith, to_z-of_z)

pub overflow_sub-font : goal.overflow_sub-font
overflow_sub-font c =
    let font = c.requires.font_in in
    let shifts = c.requires.shifts_in in
    let bottom = difference_in shifts.up c.requires.sup_fits.ink_descent in
    let top = difference_in c.requires.sub_fits.ink_ascent shifts.down in
    let short = difference_in font.gap (difference_in bottom top) in
    let f = fits_i64 bottom (lit< tt) in
    let g = fits_i64 top (lit< tt) in
    let h = fits_i64 (difference_in bottom top) (lit< tt) in
    let i = fits_i64 short (lit< tt) in
    grind (arith, to_z-of_z)

pub overflow_add-result : goal.overflow_add-result
overflow_add-result c =
    let font = c.requires.font_in in
    let shifts = c.requires.shifts_in in
    let bottom = difference_in shifts.up c.requires.sup_fits.ink_descent in
    let top = difference_in c.requires.sub_fits.ink_ascent shifts.down in
    let short = difference_in font.gap (difference_in bottom top) in
    let f = fits_i64 bottom (lit< tt) in
    let g = fits_i64 top (lit< tt) in
    let h = fits_i64 (difference_in bottom top) (lit< tt) in
    let i = fits_i64 short (lit< tt) in
    let lack = max_in short (natural_in 0) in
    let room = difference_in font.bottom_max bottom in
    let rise = max_in (min_in room lack) (natural_in 0) in
    let j = fits_i64 room (lit< tt) in
    let k = fits_i64 (sum_in shifts.up rise) (lit< tt) in
    let l = fits_i64 (difference_in lack rise) (lit< tt) in
    let m = fits_i64 (sum_in shifts.down (difference_in lack rise)) (lit< tt) in
    grind (arith, to_z-of_z)

pub overflow_add-result-2 : goal.overflow_add-result-2
overflow_add-result-2 c =
    let font = c.requires.font_in in
    let shifts = c.requires.shifts_in in
    let bottom = difference_in shifts.up c.requires.sup_fits.ink_descent in
    let top = difference_in c.requires.sub_fits.ink_ascent shifts.down in
    let short = difference_in font.gap (difference_in bottom top) in
    let f = fits_i64 bottom (lit< tt) in
    let g = fits_i64 top (lit< tt) in
    let h = fits_i64 (difference_in bottom top) (lit< tt) in
    let i = fits_i64 short (lit< tt) in
    let lack = max_in short (natural_in 0) in
    let room = difference_in font.bottom_max bottom in
    let rise = max_in (min_in room lack) (natural_in 0) in
    let j = fits_i64 room (lit< tt) in
    let k = fits_i64 (sum_in shifts.up rise) (lit< tt) in
    let l = fits_i64 (difference_in lack rise) (lit< tt) in
    let m = fits_i64 (sum_in shifts.down (difference_in lack rise)) (lit< tt) in
    grind (arith, to_z-of_z)

pub returns-clause-value : goal.returns-clause-value
unfolding moved_apart_of lack_of rise_of
returns-clause-value c =
    let font = c.requires.font_in in
    let shifts = c.requires.shifts_in in
    let bottom = difference_in shifts.up c.requires.sup_fits.ink_descent in
    let top = difference_in c.requires.sub_fits.ink_ascent shifts.down in
    let short = difference_in font.gap (difference_in bottom top) in
    let f = fits_i64 bottom (lit< tt) in
    let g = fits_i64 top (lit< tt) in
    let h = fits_i64 (difference_in bottom top) (lit< tt) in
    let i = fits_i64 short (lit< tt) in
    let lack = max_in short (natural_in 0) in
    let room = difference_in font.bottom_max bottom in
    let rise = max_in (min_in room lack) (natural_in 0) in
    let j = fits_i64 room (lit< tt) in
    let k = fits_i64 (sum_in shifts.up rise) (lit< tt) in
    let l = fits_i64 (difference_in lack rise) (lit< tt) in
    let m = fits_i64 (sum_in shifts.down (difference_in lack rise)) (lit< tt) in
    grind (arith, to_z-of_z)

pub returns-clause-within : goal.returns-clause-within
returns-clause-within c =
    subst (AreShiftsWithin (2 ^ 40)) (sym (returns-clause-value c))
    (moved_apart_in _ _ _ _ c.requires.font_in c.requires.shifts_in c.requires.sub_fits c.requires.sup_fits)
