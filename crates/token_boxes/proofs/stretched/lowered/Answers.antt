use Rattle.std.proofs.Common.{arith, lit<}
use Rattle.std.proofs.lemmas.Int.{to_z-of_z}
use Rattle.fixed_units.proofs.Within.{sum_in, difference_in, fits_i64}
use Rattle.token_boxes.specs.Operator.{lowered}
use Rattle.token_boxes.proofs.stretched.lowered.Goals as goal

pub returns : goal.returns
unfolding lowered
returns c =
    let f = fits_i64 (difference_in c.requires.frame_in.ink_ascent c.requires.drop_in) (lit< tt) in
    let g = fits_i64 (sum_in c.requires.frame_in.ink_descent c.requires.drop_in) (lit< tt) in
    grind (arith, to_z-of_z)
