use Rattle.std.proofs.Common.{arith, lit<}
use Rattle.std.proofs.lemmas.Int.{to_z-of_z}
use Rattle.fixed_units.proofs.Within.{sum_in, difference_in, max_in, fits_i64}
use Rattle.glyph_assembly.specs.Targets.{evened}
use Rattle.glyph_assembly.proofs.targets.evened.Goals as goal

pub overflow_add-result : goal.overflow_add-result
overflow_add-result c =
    let axis = c.requires.axis_in in
    let above = difference_in c.requires.ascent_in axis in
    let below = sum_in c.requires.descent_in axis in
    let f1 = fits_i64 above (lit< tt) in
    let f2 = fits_i64 below (lit< tt) in
    let f3 = fits_i64 (sum_in (max_in above below) axis) (lit< tt) in
    grind (arith, to_z-of_z)

pub overflow_sub-result : goal.overflow_sub-result
overflow_sub-result c =
    let axis = c.requires.axis_in in
    let above = difference_in c.requires.ascent_in axis in
    let below = sum_in c.requires.descent_in axis in
    let f1 = fits_i64 above (lit< tt) in
    let f2 = fits_i64 below (lit< tt) in
    let f3 = fits_i64 (difference_in (max_in above below) axis) (lit< tt) in
    grind (arith, to_z-of_z)

pub returns : goal.returns
unfolding evened
returns c =
    let axis = c.requires.axis_in in
    let above = difference_in c.requires.ascent_in axis in
    let below = sum_in c.requires.descent_in axis in
    let reach = max_in above below in
    let f1 = fits_i64 above (lit< tt) in
    let f2 = fits_i64 below (lit< tt) in
    let f3 = fits_i64 (sum_in reach axis) (lit< tt) in
    let f4 = fits_i64 (difference_in reach axis) (lit< tt) in
    grind (arith, to_z-of_z)
