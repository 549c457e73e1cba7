use Rattle.std.proofs.Common.{sym, arith}
use Rattle.fixed_units.proofs.Signed.{signed}
use Rattle.math_tables.proofs.Places.{top_of-zero, top_of-add_one, top_of_in, height_in}
use Rattle.math_tables.proofs.totals.total_height.Goals as goal

pub loop-row-init : goal.loop-row-init
loop-row-init c = sym (top_of-zero c.args.rows.now)

pub overflow_add-total : goal.overflow_add-total
overflow_add-total c =
    let before = top_of_in c.args.rows.now c.loop-row.row-index (omega arith) c.requires.within in
    let row = height_in c.args.rows.now c.loop-row.row-index c.loop-row-test.true c.requires.within in
    omega (arith, signed, c.height-total.ensures)

pub loop-row-preserved : goal.loop-row-preserved
loop-row-preserved c =
    let before = top_of_in c.args.rows.now c.loop-row.row-index (omega arith) c.requires.within in
    let row = height_in c.args.rows.now c.loop-row.row-index c.loop-row-test.true c.requires.within in
    omega (arith, signed, c.height-total.ensures, top_of-add_one c.args.rows.now c.loop-row.row-index)

pub returns-clause-within : goal.returns-clause-within
returns-clause-within c =
    let all = top_of_in c.args.rows.now c.loop-row.row-index (omega arith) c.requires.within in
    record { low = omega (arith, signed); high = omega (arith, signed) }
