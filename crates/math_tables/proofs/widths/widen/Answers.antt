use Rattle.std.proofs.Common.{arith, sym, pos}
use Rattle.std.proofs.lemmas.Int.{to_z-of_z}
use Rattle.math_tables.proofs.Widest.{widened-none, one_cell}
use Rattle.math_tables.proofs.widths.widen.Goals as goal

pub loop-place-init : goal.loop-place-init
loop-place-init c = sym (widened-none c.args.columns.items)

pub loop-place-preserved : goal.loop-place-preserved
loop-place-preserved c =
    let added = c.in_ok-widths.ensures {u = tt} in
    one_cell c.args.columns.items c.args.row.now c.loop-place.widths.items c.in_ok-widths.widths.items c.loop-place.place (pos 0) c.loop-place-test.true c.loop-place.invariant
    (grind (arith, to_z-of_z))
