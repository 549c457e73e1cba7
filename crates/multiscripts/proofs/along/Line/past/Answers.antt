use Rattle.std.proofs.Common.{arith, lit<}
use Rattle.std.proofs.lemmas.Int.{to_z-of_z}
use Rattle.fixed_units.proofs.Within.{sum_in, fits_i64}
use Rattle.multiscripts.specs.Along.{past_of}
use Rattle.multiscripts.proofs.along.Line.past.Goals as goal

pub returns-then-pair : goal.returns-then-pair
unfolding past_of
returns-then-pair c =
    let taken = sum_in c.requires.space_in c.room.ensures.within in
    let f = fits_i64 c.room.ensures.within (lit< tt) in
    let g = fits_i64 taken (lit< tt) in
    let h = fits_i64 (sum_in c.requires.line_in.ahead taken) (lit< tt) in
    let i = fits_i64 c.requires.line_in.behind (lit< tt) in
    grind (arith, to_z-of_z)

pub returns-else-pair : goal.returns-else-pair
unfolding past_of
returns-else-pair c =
    let taken = sum_in c.requires.space_in c.room.ensures.within in
    let f = fits_i64 c.room.ensures.within (lit< tt) in
    let g = fits_i64 taken (lit< tt) in
    let h = fits_i64 (sum_in c.requires.line_in.behind taken) (lit< tt) in
    let i = fits_i64 c.requires.line_in.ahead (lit< tt) in
    grind (arith, to_z-of_z)
