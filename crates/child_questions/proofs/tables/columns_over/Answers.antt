use Rattle.std.proofs.Common.{◌∙◌, ap}
use Rattle.layout_model.specs.declared.outcome.Answer.{Answer}
use Rattle.layout_model.proofs.Told.{told_next}
use Rattle.child_questions.proofs.tables.columns_over.Goals as goal

pub loop-row-preserved : goal.loop-row-preserved
loop-row-preserved g c =
    told_next (g.A.Answered.told) (λ (row : Answer). row.cells) c.args.rows.now c.loop-row.row-index c.row-item.result c.loop-row.cells c.push.new.self _
    c.loop-row-test.true c.row-item.is c.loop-row.invariant (c.in_ok-copy.ensures {u = tt} ∙ ap (λ (row : Answer). row.cells) c.answer.ensures) (c.in_ok-push.ensures {u = tt}).ok
