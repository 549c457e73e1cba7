use Rattle.std.proofs.Common.{◌^◌, arith, lit<, subst, sym}
use Rattle.std.proofs.lemmas.Int.{to_z-of_z}
use Rattle.fixed_units.specs.Numbers.{IsWithin}
use Rattle.fixed_units.proofs.Within.{natural_in, sum_in, difference_in, max_in, fits_i64}
use Rattle.radicals.specs.Equation.{root_start_of}
use Rattle.radicals.proofs.Bounds.{root_start_in}
use Rattle.radicals.proofs.equation.root_start.Goals as goal

pub overflow_add-result-2 : goal.overflow_add-result-2
overflow_add-result-2 c =
    let before = c.kern_before.ensures.within in
    let width = c.requires.index_in.width in
    let back = difference_in (natural_in 0) width in
    let after = max_in c.requires.font_in.kern_after back in
    let f1 = fits_i64 before (lit< tt) in
    let f2 = fits_i64 (sum_in before width) (lit< tt) in
    let f3 = fits_i64 back (lit< tt) in
    let f4 = fits_i64 after (lit< tt) in
    let f5 = fits_i64 (sum_in (sum_in before width) after) (lit< tt) in
    grind (arith, to_z-of_z)

pub returns-clause-value : goal.returns-clause-value
unfolding root_start_of
returns-clause-value c =
    let before = max_in c.requires.font_in.kern_before (natural_in 0) in
    let width = c.requires.index_in.width in
    let back = difference_in (natural_in 0) width in
    let after = max_in c.requires.font_in.kern_after back in
    let f1 = fits_i64 before (lit< tt) in
    let f2 = fits_i64 (sum_in before width) (lit< tt) in
    let f3 = fits_i64 back (lit< tt) in
    let f4 = fits_i64 after (lit< tt) in
    let f5 = fits_i64 (sum_in (sum_in before width) after) (lit< tt) in
    grind (arith, to_z-of_z)

pub returns-clause-within : goal.returns-clause-within
returns-clause-within c =
    subst (IsWithin (2 ^ 34)) (sym (returns-clause-value c)) (root_start_in _ _ c.requires.font_in c.requires.index_in)
