use Rattle.std.proofs.Common.{◌≡◌, ◌∙◌, ap}
use Rattle.span_tables.proofs.Rowwise.{no_span, deepest_more}
use Rattle.span_tables.proofs.own_heights.deepest.Goals as goal

pub loop-cell-preserved : goal.loop-cell-preserved
loop-cell-preserved c =
    let more = deepest_more c.args.cells.now c.loop-cell.cell-index no_span c.loop-cell-test.true in
    let before = c.loop-cell.invariant in
    cc
