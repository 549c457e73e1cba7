use Rattle.std.proofs.Common.{◌≡◌, ◌∙◌, sym, ap, subst, ◌<◌, arith, ℕ, List, [], length, get_or}
use Rattle.std.proofs.lemmas.List.{get_or_default}
use Rattle.span_tables.specs.Slots.{AreInside}
use Rattle.span_tables.specs.Standing.{first_columns_of}
use Rattle.span_tables.specs.Widths.{span_columns_of}
use Rattle.span_tables.specs.declared.cells.SpanCell.{SpanCell}
use Rattle.span_tables.proofs.Shapes.{one_each}
use Rattle.box_kinds.proofs.kinds.spans.add_slots.Goals as goal

pub bounds-along-row : goal.bounds-along-row
bounds-along-row c =
    let all = ap (λ (xs : List (List SpanCell)). length xs) c.as_slice-cells-items.ensures in
    let firsts = ap (λ (xs : List (List ℕ)). length xs) (c.as_slice-along.ensures ∙ c.requires.firsts) in
    omega (arith, c.loop-row-test.true, all, firsts, (one_each c.args.rows.now).row_count)

pub slots_of_row-requires-clause-inside : goal.slots_of_row-requires-clause-inside
slots_of_row-requires-clause-inside c =
    let rows = c.args.rows.now in
    let i = c.loop-row.row in
    let test = c.loop-row-test.true in
    let all = ap (λ (xs : List (List SpanCell)). length xs) c.as_slice-cells-items.ensures in
    let along_is = c.as_slice-along.ensures ∙ c.requires.firsts in
    let firsts = ap (λ (xs : List (List ℕ)). length xs) along_is in
    let cells : c.cells-item.result ≡ get_or rows i [] =
    c.cells-item.is ∙ get_or_default _ i _ [] test
    ∙ ap (λ (xs : List (List SpanCell)). get_or xs i []) c.as_slice-cells-items.ensures in
    let along : c.index-along-row.result ≡ get_or (first_columns_of rows) i [] =
    c.index-along-row.is ∙ get_or_default _ i _ [] (omega (arith, test, all, firsts, (one_each rows).row_count))
    ∙ ap (λ (xs : List (List ℕ)). get_or xs i []) along_is in
    let most = length (span_columns_of rows (first_columns_of rows)) in
    let widths : length c.args.widths.now ≡ most =
    ap length (c.requires.widths ∙ ap (span_columns_of rows) c.requires.firsts) in
    subst (λ (n : ℕ). AreInside n c.cells-item.result c.index-along-row.result) (sym widths)
    (subst (λ (xs : List SpanCell). AreInside most xs c.index-along-row.result) (sym cells)
    (subst (λ (xs : List ℕ). AreInside most (get_or rows i []) xs) (sym along)
    (c.cells_stand_inside.ensures.inside rows i (omega (arith, test, all)))))
