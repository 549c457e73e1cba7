use Rattle.std.proofs.Common.{sym, ◌+◌, arith}
use Rattle.fixed_units.proofs.Signed.{signed}
use Rattle.span_tables.proofs.Shares.{width_over-zero, width_over-add_one, width_over_in, column_within}
use Rattle.span_tables.proofs.sharing.width_over.Goals as goal

pub loop-place-init : goal.loop-place-init
loop-place-init c = sym (width_over-zero c.args.widths.now c.args.first)

pub overflow_add-total-in-loop-place : goal.overflow_add-total-in-loop-place
overflow_add-total-in-loop-place c =
    let so_far = width_over_in c.args.widths.now c.args.first c.loop-place.place c.requires.columns (omega arith) in
    let here = column_within c.args.widths.now (c.args.first + c.loop-place.place) c.requires.columns (omega arith) in
    omega (arith, signed)

pub loop-place-preserved : goal.loop-place-preserved
loop-place-preserved c =
    let so_far = width_over_in c.args.widths.now c.args.first c.loop-place.place c.requires.columns (omega arith) in
    let here = column_within c.args.widths.now (c.args.first + c.loop-place.place) c.requires.columns (omega arith) in
    omega (arith, signed, width_over-add_one c.args.widths.now c.args.first c.loop-place.place)

pub returns-clause-within : goal.returns-clause-within
returns-clause-within c =
    let all = width_over_in c.args.widths.now c.args.first c.loop-place.place c.requires.columns (omega arith) in
    record { low = omega (arith, signed); high = omega (arith, signed) }
