use Rattle.std.proofs.Common.{◌^◌, arith, lit<, subst, sym}
use Rattle.std.proofs.lemmas.Int.{to_z-of_z}
use Rattle.fixed_units.specs.Numbers.{IsWithin}
use Rattle.fixed_units.proofs.Within.{sum_in, difference_in, fits_i64}
use Rattle.radicals.specs.Equation.{index_height_of}
use Rattle.radicals.proofs.Bounds.{share_in, index_height_in}
use Rattle.radicals.proofs.equation.index_height.Goals as goal

pub overflow_sub-result : goal.overflow_sub-result
overflow_sub-result c =
    let root = c.requires.root_in in
    let ink = sum_in root.ink_ascent root.ink_descent in
    let share = share_in _ _ c.requires.font_in.raise ink in
    let f1 = fits_i64 ink (lit< tt) in
    let f2 = fits_i64 share (lit< tt) in
    let f3 = fits_i64 (difference_in share root.ink_descent) (lit< tt) in
    let f4 = fits_i64 (sum_in (difference_in share root.ink_descent) c.requires.index_in.ink_descent) (lit< tt) in
    grind (arith, to_z-of_z)

pub overflow_add-result : goal.overflow_add-result
overflow_add-result c =
    let root = c.requires.root_in in
    let ink = sum_in root.ink_ascent root.ink_descent in
    let share = share_in _ _ c.requires.font_in.raise ink in
    let f1 = fits_i64 ink (lit< tt) in
    let f2 = fits_i64 share (lit< tt) in
    let f3 = fits_i64 (difference_in share root.ink_descent) (lit< tt) in
    let f4 = fits_i64 (sum_in (difference_in share root.ink_descent) c.requires.index_in.ink_descent) (lit< tt) in
    grind (arith, to_z-of_z)

pub returns-clause-value : goal.returns-clause-value
unfolding index_height_of
returns-clause-value c =
    let root = c.requires.root_in in
    let ink = sum_in root.ink_ascent root.ink_descent in
    let share = share_in _ _ c.requires.font_in.raise ink in
    let f1 = fits_i64 ink (lit< tt) in
    let f2 = fits_i64 share (lit< tt) in
    let f3 = fits_i64 (difference_in share root.ink_descent) (lit< tt) in
    let f4 = fits_i64 (sum_in (difference_in share root.ink_descent) c.requires.index_in.ink_descent) (lit< tt) in
    grind (arith, to_z-of_z)

pub returns-clause-within : goal.returns-clause-within
returns-clause-within c =
    subst (IsWithin (2 ^ 55)) (sym (returns-clause-value c)) (index_height_in _ _ _ c.requires.font_in c.requires.root_in c.requires.index_in)
