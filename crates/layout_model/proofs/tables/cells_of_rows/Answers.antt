use Rattle.std.proofs.Common.{◌∙◌, ap}
use Rattle.layout_model.specs.Tables.{cells_of_row}
use Rattle.layout_model.proofs.Told.{told_next}
use Rattle.layout_model.proofs.tables.cells_of_rows.Goals as goal

pub loop-row-preserved : goal.loop-row-preserved
loop-row-preserved g c =
    told_next (g.A.Answered.told) cells_of_row c.args.rows.now c.loop-row.row-index c.row-item.result c.loop-row.cells c.push.new.self _
    c.loop-row-test.true c.row-item.is c.loop-row.invariant (c.in_ok-cells_of_row.ensures {u = tt} ∙ ap cells_of_row c.answer.ensures) (c.in_ok-push.ensures {u = tt}).ok
