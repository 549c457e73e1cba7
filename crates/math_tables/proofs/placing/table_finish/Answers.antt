use Rattle.std.proofs.Common.{◌^◌, arith, lit<, lit≤}
use Rattle.std.proofs.lemmas.Int.{to_z-of_z}
use Rattle.fixed_units.proofs.Within.{widened, sum_in, difference_in, half_in, fits_i64}
use Rattle.math_tables.specs.Placing.{table_ascent_of}
use Rattle.math_tables.proofs.placing.table_finish.Goals as goal

pub overflow_add-ascent : goal.overflow_add-ascent
overflow_add-ascent c =
    let height = c.total_height-height.ensures.within in
    let ascent = sum_in (half_in height) c.constant.ensures.within in
    let f = fits_i64 height (lit< tt) in
    let g = fits_i64 (half_in height) (lit< tt) in
    let h = fits_i64 c.constant.ensures.within (lit< tt) in
    let i = fits_i64 ascent (lit< tt) in
    grind (arith, to_z-of_z)

pub row_offsets-requires-clause-ascent_in : goal.row_offsets-requires-clause-ascent_in
row_offsets-requires-clause-ascent_in c =
    let height = c.total_height-height.ensures.within in
    let ascent = sum_in (half_in height) c.constant.ensures.within in
    let f = fits_i64 height (lit< tt) in
    let g = fits_i64 (half_in height) (lit< tt) in
    let h = fits_i64 c.constant.ensures.within (lit< tt) in
    let i = fits_i64 ascent (lit< tt) in
    let w = widened (2 ^ 62) ascent (lit≤ tt) in
    grind (arith, to_z-of_z)

pub overflow_sub-descent : goal.overflow_sub-descent
overflow_sub-descent c =
    let height = c.total_height-height.ensures.within in
    let ascent = sum_in (half_in height) c.constant.ensures.within in
    let f = fits_i64 height (lit< tt) in
    let g = fits_i64 (half_in height) (lit< tt) in
    let h = fits_i64 c.constant.ensures.within (lit< tt) in
    let i = fits_i64 ascent (lit< tt) in
    let j = fits_i64 (difference_in height ascent) (lit< tt) in
    grind (arith, to_z-of_z)

pub returns-clause-frame : goal.returns-clause-frame
unfolding table_ascent_of
returns-clause-frame c =
    let height = c.total_height-height.ensures.within in
    let ascent = sum_in (half_in height) c.constant.ensures.within in
    let f = fits_i64 ascent (lit< tt) in
    let g = fits_i64 (difference_in height ascent) (lit< tt) in
    grind (arith, to_z-of_z)

pub returns-clause-offsets : goal.returns-clause-offsets
unfolding table_ascent_of
returns-clause-offsets c =
    let height = c.total_height-height.ensures.within in
    let ascent = sum_in (half_in height) c.constant.ensures.within in
    let f = fits_i64 ascent (lit< tt) in
    grind (arith, to_z-of_z)
