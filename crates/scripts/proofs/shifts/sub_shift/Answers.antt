use Rattle.std.proofs.Common.{◌^◌, arith, lit<, sym, subst}
use Rattle.std.proofs.lemmas.Int.{to_z-of_z}
use Rattle.fixed_units.specs.Numbers.{IsWithin}
use Rattle.fixed_units.proofs.Within.{sum_in, difference_in, fits_i64}
use Rattle.scripts.specs.Shifts.{sub_shift_of}
use Rattle.scripts.proofs.Bounds.{sub_shift_in}
use Rattle.scripts.proofs.shifts.sub_shift.Goals as goal

pub returns-clause-value : goal.returns-clause-value
unfolding sub_shift_of
returns-clause-value c =
    let f = fits_i64 (difference_in c.requires.sub_fits.ink_ascent c.requires.font_in.top_max) (lit< tt) in
    let g = fits_i64 (sum_in c.requires.font_in.drop_min c.requires.base_fits.ink_descent) (lit< tt) in
    grind (arith, to_z-of_z)

pub returns-clause-within : goal.returns-clause-within
returns-clause-within c =
    subst (IsWithin (2 ^ 34)) (sym (returns-clause-value c))
    (sub_shift_in _ _ _ c.requires.font_in c.requires.base_fits c.requires.sub_fits)
