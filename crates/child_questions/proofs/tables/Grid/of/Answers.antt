use Rattle.std.proofs.Common.{◌≡◌, ◌∙◌, sym, map}
use Rattle.std.proofs.lemmas.Result.{IfOk-weaker}
use Rattle.child_questions.specs.Grids.{grid_of}
use Rattle.child_questions.specs.declared.tables.Grid.{Grid}
use Rattle.child_questions.proofs.Grids.{grid-plain, grid-spanning}
use Rattle.child_questions.proofs.tables.Grid.of.Goals as goal

pub returns-then-has_spans : goal.returns-then-has_spans
returns-then-has_spans g c =
    let rows = map (g.A.Answered.told) c.args.rows.now in
    IfOk-weaker c.spanning.result _ (λ (grid : Grid). grid ≡ grid_of rows)
    (λ grid e. e ∙ sym (grid-spanning rows (sym c.has_spans.ensures ∙ c.if-has_spans.true))) c.spanning.ensures

pub returns-else-has_spans : goal.returns-else-has_spans
returns-else-has_spans g c =
    let rows = map (g.A.Answered.told) c.args.rows.now in
    IfOk-weaker c.plain.result _ (λ (grid : Grid). grid ≡ grid_of rows)
    (λ grid e. e ∙ sym (grid-plain rows (sym c.has_spans.ensures ∙ c.if-has_spans.false))) c.plain.ensures
