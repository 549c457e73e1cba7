use Rattle.std.proofs.Common.{sym, arith}
use Rattle.fixed_units.proofs.Signed.{signed}
use Rattle.math_tables.proofs.Places.{start_of-zero, start_of-add_one, start_of_in, width_in}
use Rattle.math_tables.proofs.totals.total_width.Goals as goal

pub loop-width-init : goal.loop-width-init
loop-width-init c = sym (start_of-zero c.args.widths.now)

pub overflow_add-total : goal.overflow_add-total
overflow_add-total c =
    let before = start_of_in c.args.widths.now c.loop-width.width-index c.requires.within in
    let width = width_in c.args.widths.now c.loop-width.width-index c.requires.within in
    omega (arith, signed)

pub loop-width-preserved : goal.loop-width-preserved
loop-width-preserved c =
    let before = start_of_in c.args.widths.now c.loop-width.width-index c.requires.within in
    let width = width_in c.args.widths.now c.loop-width.width-index c.requires.within in
    omega (arith, signed, start_of-add_one c.args.widths.now c.loop-width.width-index)

pub returns-clause-within : goal.returns-clause-within
returns-clause-within c =
    let all = start_of_in c.args.widths.now c.loop-width.width-index c.requires.within in
    record { low = omega (arith, signed); high = omega (arith, signed) }
