use Rattle.std.proofs.Common.{◌^◌, arith, lit<}
use Rattle.std.proofs.lemmas.Int.{to_z-of_z}
use Rattle.fixed_units.proofs.Within.{sum_in, difference_in, widened, fits_i64}
use Rattle.span_tables.proofs.Deepening.{descent_in}
use Rattle.span_tables.proofs.heights.lack_below.Goals as goal

pub returns-clause-value : goal.returns-clause-value
returns-clause-value c =
    let here = descent_in c.args.heights.now c.args.row c.requires.rows (omega arith) in
    let room = sum_in here c.height_over.ensures.within in
    let f = fits_i64 room (lit< tt) in
    let g = fits_i64 (difference_in c.requires.descent_in room) (lit< tt) in
    grind (arith, to_z-of_z)

pub returns-clause-within : goal.returns-clause-within
returns-clause-within c =
    let here = descent_in c.args.heights.now c.args.row c.requires.rows (omega arith) in
    let room = sum_in here c.height_over.ensures.within in
    let f = fits_i64 room (lit< tt) in
    let g = fits_i64 (difference_in c.requires.descent_in room) (lit< tt) in
    let all = widened (2 ^ 54) (difference_in c.requires.descent_in room) (omega arith) in
    grind (arith, to_z-of_z)
