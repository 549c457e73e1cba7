use Rattle.std.proofs.Common.{◌∙◌, sym, ap}
use Rattle.math_tables.specs.Columns.{widened}
use Rattle.math_tables.proofs.Widest.{columns_of-none, one_row}
use Rattle.math_tables.proofs.widths.columns.Goals as goal

pub loop-row-init : goal.loop-row-init
loop-row-init c = c.new-widths.ensures.items ∙ sym columns_of-none

pub loop-row-preserved : goal.loop-row-preserved
loop-row-preserved c =
    let rows = c.as_slice-row-items.result.now in
    let before = c.loop-row.widths.items in
    let added = c.in_ok-widths.ensures {u = tt} ∙ ap (widened before) (c.as_slice.ensures ∙ c.row-item.is) in
    one_row rows before c.in_ok-widths.widths.items c.loop-row.row-index c.row-item.result c.loop-row-test.true c.loop-row.invariant added
