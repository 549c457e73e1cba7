use Rattle.std.proofs.Common.{arith, lit<}
use Rattle.std.proofs.lemmas.Int.{to_z-of_z}
use Rattle.fixed_units.proofs.Within.{difference_in, fits_i64}
use Rattle.token_boxes.specs.Operator.{drop_of}
use Rattle.token_boxes.proofs.stretched.drop.Goals as goal

pub returns-clause-value : goal.returns-clause-value
unfolding drop_of
returns-clause-value c =
    let ink = difference_in c.requires.frame_in.ink_ascent c.requires.frame_in.ink_descent in
    let f = fits_i64 ink (lit< tt) in
    let g = fits_i64 (difference_in ink c.requires.rise_in) (lit< tt) in
    grind (arith, to_z-of_z)
