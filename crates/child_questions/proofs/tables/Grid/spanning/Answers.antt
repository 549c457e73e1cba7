use Rattle.std.proofs.Common.{◌≡◌, ◌∙◌, sym, ap, subst, arith, length, All, map}
use Rattle.std.proofs.lemmas.List.{length-map}
use Rattle.span_tables.specs.Bounds.{HasSpan, IsStored, cell_count as span_cell_count}
use Rattle.span_tables.specs.Slots.{starts_of}
use Rattle.span_tables.specs.Standing.{first_columns_of}
use Rattle.span_tables.specs.Widths.{span_columns_of}
use Rattle.layout_model.specs.Tables.{cells_of_row, cells_of_rows, spanned_columns}
use Rattle.layout_model.proofs.Ranges.{answers_stored}
use Rattle.layout_model.proofs.TableCells.{rows_count, rows_span, rows_stored}
use Rattle.child_questions.specs.declared.tables.Grid.TheVariants.{Spanning}
use Rattle.child_questions.proofs.tables.Grid.spanning.Goals as goal

pub first_columns-requires-clause-few_rows : goal.first_columns-requires-clause-few_rows
first_columns-requires-clause-few_rows g c =
    let rows = map (g.A.Answered.told) c.args.rows.now in
    omega (arith, ap length (c.in_ok-cells.ensures {u = tt}), length-map rows cells_of_row, c.requires.count)

pub first_columns-requires-clause-few_cells : goal.first_columns-requires-clause-few_cells
first_columns-requires-clause-few_cells g c =
    let rows = map (g.A.Answered.told) c.args.rows.now in
    omega (arith, ap span_cell_count (c.in_ok-cells.ensures {u = tt}), rows_count rows, c.requires.few)

pub first_columns-requires-clause-spans : goal.first_columns-requires-clause-spans
first_columns-requires-clause-spans g c =
    let rows = map (g.A.Answered.told) c.args.rows.now in
    subst (All (All HasSpan)) (sym (c.in_ok-cells.ensures {u = tt})) (rows_span rows c.requires.spans)

pub span_columns-requires-clause-few_cells : goal.span_columns-requires-clause-few_cells
span_columns-requires-clause-few_cells g c =
    let rows = map (g.A.Answered.told) c.args.rows.now in
    omega (arith, ap span_cell_count (c.in_ok-cells.ensures {u = tt}), rows_count rows, c.requires.few)

pub span_columns-requires-clause-spans : goal.span_columns-requires-clause-spans
span_columns-requires-clause-spans g c =
    let rows = map (g.A.Answered.told) c.args.rows.now in
    subst (All (All HasSpan)) (sym (c.in_ok-cells.ensures {u = tt})) (rows_span rows c.requires.spans)

pub span_columns-requires-clause-stored : goal.span_columns-requires-clause-stored
span_columns-requires-clause-stored g c =
    let rows = map (g.A.Answered.told) c.args.rows.now in
    subst (All (All IsStored)) (sym (c.in_ok-cells.ensures {u = tt})) (rows_stored rows (answers_stored rows c.requires.fit))

pub returns : goal.returns
returns g c =
    let rows = map (g.A.Answered.told) c.args.rows.now in
    let cells : c.in_ok-cells.cells ≡ cells_of_rows rows = c.in_ok-cells.ensures {u = tt} in
    let firsts : c.in_ok-firsts.firsts ≡ first_columns_of (cells_of_rows rows) = c.in_ok-firsts.ensures {u = tt} ∙ ap first_columns_of cells in
    let widths : c.in_ok-widths.widths ≡ spanned_columns rows =
    (c.in_ok-widths.ensures {u = tt}).value ∙ (λ i. span_columns_of (cells i) (firsts i)) in
    let starts : c.in_ok-starts.starts ≡ starts_of (spanned_columns rows) = c.in_ok-starts.ensures {u = tt} ∙ ap starts_of widths in
    λ i. Spanning (cells i) (firsts i) (starts i)
