use Rattle.std.proofs.Common.{arith, lit<}
use Rattle.std.proofs.lemmas.Int.{to_z-of_z}
use Rattle.fixed_units.proofs.Within.{natural_in, sum_in, fits_i64}
use Rattle.layout_model.specs.Rows.{error_of}
use Rattle.outcomes.proofs.row.bordered.Goals as goal

pub returns : goal.returns
unfolding error_of
returns c =
    let r = c.requires in
    let f1 = fits_i64 (sum_in r.width (natural_in 2048)) (lit< tt) in
    let f2 = fits_i64 (sum_in r.ascent (natural_in 1024)) (lit< tt) in
    let f3 = fits_i64 (sum_in r.descent (natural_in 1024)) (lit< tt) in
    let f4 = fits_i64 (sum_in r.ink_ascent (natural_in 1024)) (lit< tt) in
    let f5 = fits_i64 (sum_in r.ink_descent (natural_in 1024)) (lit< tt) in
    grind (arith, to_z-of_z)
