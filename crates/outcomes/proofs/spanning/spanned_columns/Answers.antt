use Rattle.std.proofs.Common.{◌≡◌, ◌∙◌, sym, ap, subst, arith, length, All, List, ℤ}
use Rattle.std.proofs.lemmas.List.{length-map}
use Rattle.std.proofs.lemmas.Result.{IfOk-weaker}
use Rattle.math_tables.specs.Placing.{IsColumn}
use Rattle.span_tables.specs.Bounds.{HasSpan, IsStored, cell_count as span_cell_count}
use Rattle.span_tables.specs.Standing.{first_columns_of}
use Rattle.span_tables.specs.Widths.{span_columns_of}
use Rattle.layout_model.specs.Tables.{cells_of_row, cells_of_rows, spanned_columns}
use Rattle.layout_model.proofs.Ranges.{answers_stored}
use Rattle.layout_model.proofs.TableCells.{rows_count, rows_span, rows_stored}
use Rattle.outcomes.proofs.SpannedTables.{spanned_columns_in}
use Rattle.outcomes.proofs.spanning.spanned_columns.Goals as goal

pub first_columns-requires-clause-few_rows : goal.first_columns-requires-clause-few_rows
first_columns-requires-clause-few_rows g c =
    let kids = c.args.e.now.kids in
    let cells = c.in_ok-cells.ensures {u = tt} ∙ ap cells_of_rows c.answers.ensures in
    omega (arith, ap length cells, length-map kids cells_of_row, c.count-count.ensures.whole.few)

pub first_columns-requires-clause-few_cells : goal.first_columns-requires-clause-few_cells
first_columns-requires-clause-few_cells g c =
    let kids = c.args.e.now.kids in
    let cells = c.in_ok-cells.ensures {u = tt} ∙ ap cells_of_rows c.answers.ensures in
    omega (arith, ap span_cell_count cells, rows_count kids, c.count-count.ensures.whole.table c.requires)

pub first_columns-requires-clause-spans : goal.first_columns-requires-clause-spans
first_columns-requires-clause-spans g c =
    let kids = c.args.e.now.kids in
    let cells = c.in_ok-cells.ensures {u = tt} ∙ ap cells_of_rows c.answers.ensures in
    subst (All (All HasSpan)) (sym cells) (rows_span kids c.count-count.ensures.whole.spans)

pub span_columns-requires-clause-few_cells : goal.span_columns-requires-clause-few_cells
span_columns-requires-clause-few_cells g c =
    let kids = c.args.e.now.kids in
    let cells = c.in_ok-cells.ensures {u = tt} ∙ ap cells_of_rows c.answers.ensures in
    omega (arith, ap span_cell_count cells, rows_count kids, c.count-count.ensures.whole.table c.requires)

pub span_columns-requires-clause-spans : goal.span_columns-requires-clause-spans
span_columns-requires-clause-spans g c =
    let kids = c.args.e.now.kids in
    let cells = c.in_ok-cells.ensures {u = tt} ∙ ap cells_of_rows c.answers.ensures in
    subst (All (All HasSpan)) (sym cells) (rows_span kids c.count-count.ensures.whole.spans)

pub span_columns-requires-clause-stored : goal.span_columns-requires-clause-stored
span_columns-requires-clause-stored g c =
    let kids = c.args.e.now.kids in
    let cells = c.in_ok-cells.ensures {u = tt} ∙ ap cells_of_rows c.answers.ensures in
    subst (All (All IsStored)) (sym cells) (rows_stored kids (answers_stored kids c.count-count.ensures.whole.stored))

pub returns-clause-value : goal.returns-clause-value
returns-clause-value g c =
    let kids = c.args.e.now.kids in
    let cells = c.in_ok-cells.ensures {u = tt} ∙ ap cells_of_rows c.answers.ensures in
    let firsts = c.in_ok-firsts.ensures {u = tt} ∙ ap first_columns_of cells in
    IfOk-weaker c.span_columns.result _ (λ (widths : List ℤ). widths ≡ spanned_columns kids)
    (λ widths e. e ∙ (λ i. span_columns_of (cells i) (firsts i))) c.span_columns.ensures.value

pub returns-clause-within : goal.returns-clause-within
returns-clause-within g c =
    IfOk-weaker c.span_columns.result _ (All IsColumn) (λ widths all. spanned_columns_in widths all) c.span_columns.ensures.within
