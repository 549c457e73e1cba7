use Rattle.std.proofs.Common.{arith, lit<}
use Rattle.std.proofs.lemmas.Int.{to_z-of_z}
use Rattle.fixed_units.proofs.Within.{difference_in, fits_i64, sum_in}
use Rattle.layout_model.specs.Rows.{padded_ascent, padded_descent, padded_of, padded_width}
use Rattle.outcomes.proofs.padding.padded.Goals as goal

pub returns : goal.returns
unfolding padded_of padded_width padded_ascent padded_descent
returns c =
    let r = c.requires.row_in in
    let f1 = fits_i64 c.measure-width.ensures.within (lit< tt) in
    let f2 = fits_i64 c.measure.ensures.within (lit< tt) in
    let f3 = fits_i64 c.measure-2.ensures.within (lit< tt) in
    let f4 = fits_i64 c.rise-rise.ensures.within (lit< tt) in
    let f5 = fits_i64 (sum_in r.ink_ascent c.rise-rise.ensures.within) (lit< tt) in
    let f6 = fits_i64 (difference_in r.ink_descent c.rise-rise.ensures.within) (lit< tt) in
    grind (arith, to_z-of_z)
