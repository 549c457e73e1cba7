use Rattle.std.proofs.Common.{◌≡◌, ◌∙◌, sym, ap, subst, arith, length, All, List}
use Rattle.std.proofs.lemmas.List.{length-map}
use Rattle.std.proofs.lemmas.Result.{IfOk-weaker}
use Rattle.fixed_units.specs.Sums.{list_to}
use Rattle.fixed_units.specs.declared.boxes.MathBox.{MathBox}
use Rattle.math_tables.specs.Placing.{HasHeights}
use Rattle.span_tables.specs.Bounds.{HasSpan, IsStored}
use Rattle.span_tables.specs.Heights.{IsRow, height_at, span_heights_of}
use Rattle.span_tables.specs.declared.cells.RowHeight.{RowHeight}
use Rattle.layout_model.specs.Elements.{frame_at}
use Rattle.layout_model.specs.Tables.{cells_of_row, cells_of_rows, height_of_row, spanned_heights, spanned_row, with_height}
use Rattle.layout_model.specs.declared.outcome.Answer.{Answer}
use Rattle.layout_model.proofs.Ranges.{answers_stored}
use Rattle.layout_model.proofs.TableCells.{rows_span, rows_stored}
use Rattle.outcomes.proofs.SpannedTables.{rows_with_heights}
use Rattle.outcomes.proofs.spanning.spanned_rows.Goals as goal

abbrev height_of : Answer → RowHeight
height_of row = height_of_row row.frame

pub span_heights-requires-clause-few_rows : goal.span_heights-requires-clause-few_rows
span_heights-requires-clause-few_rows g c =
    let kids = c.args.e.now.kids in
    let cells = c.in_ok-cells.ensures {u = tt} ∙ ap cells_of_rows c.answers.ensures in
    omega (arith, ap length cells, length-map kids cells_of_row, c.count-count.ensures.whole.few)

pub span_heights-requires-clause-each : goal.span_heights-requires-clause-each
span_heights-requires-clause-each g c =
    let kids = c.args.e.now.kids in
    let cells = c.in_ok-cells.ensures {u = tt} ∙ ap cells_of_rows c.answers.ensures in
    omega (arith, ap length cells, length-map kids cells_of_row, ap length (c.in_ok-own.ensures {u = tt}).value, length-map kids height_of)

pub span_heights-requires-clause-spans : goal.span_heights-requires-clause-spans
span_heights-requires-clause-spans g c =
    let cells = c.in_ok-cells.ensures {u = tt} ∙ ap cells_of_rows c.answers.ensures in
    subst (All (All HasSpan)) (sym cells) (rows_span c.args.e.now.kids c.count-count.ensures.whole.spans)

pub span_heights-requires-clause-stored : goal.span_heights-requires-clause-stored
span_heights-requires-clause-stored g c =
    let kids = c.args.e.now.kids in
    let cells = c.in_ok-cells.ensures {u = tt} ∙ ap cells_of_rows c.answers.ensures in
    subst (All (All IsStored)) (sym cells) (rows_stored kids (answers_stored kids c.count-count.ensures.whole.stored))

pub returns-clause-value : goal.returns-clause-value
returns-clause-value g c =
    let e = c.args.e.now in
    let kids = e.kids in
    let cells = c.in_ok-cells.ensures {u = tt} ∙ ap cells_of_rows c.answers.ensures in
    let own = (c.in_ok-own.ensures {u = tt}).value in
    let same : c.as_slice.result.now ≡ spanned_heights kids =
    c.as_slice.ensures ∙ (c.in_ok-heights.ensures {u = tt}).value ∙ (λ i. span_heights_of (cells i) (own i)) in
    IfOk-weaker c.with_heights.result _ (λ (rows : List MathBox). rows ≡ list_to (length kids) (spanned_row kids))
    (λ rows is. is ∙ ap (λ (heights : List RowHeight). list_to (length kids) (λ index. with_height (frame_at e index) (height_at heights index))) same)
    c.with_heights.ensures

pub returns-clause-within : goal.returns-clause-within
returns-clause-within g c =
    let e = c.args.e.now in
    let all = subst (All IsRow) (sym c.as_slice.ensures) (c.in_ok-heights.ensures {u = tt}).within in
    IfOk-weaker c.with_heights.result _ (All HasHeights)
    (λ rows is. subst (All HasHeights) (sym is) (rows_with_heights (length e.kids) (frame_at e) c.as_slice.result.now all))
    c.with_heights.ensures
