use Rattle.std.proofs.Common.{◌∙◌, sym, ap, List, [], ◌∷◌, ◌++◌}
use Rattle.fixed_units.specs.Sums.{list_to}
use Rattle.fixed_units.proofs.Sums.{list_to-add_one, list_to-zero}
use Rattle.span_tables.specs.declared.cells.SpanCell.{SpanCell}
use Rattle.layout_model.specs.Tables.{cell_of_row}
use Rattle.layout_model.proofs.tables.cells_of_row.Goals as goal

pub loop-place-init : goal.loop-place-init
loop-place-init c = (c.in_ok-cells.ensures {u = tt}) ∙ sym (list_to-zero (cell_of_row c.args.row.now))

pub loop-place-preserved : goal.loop-place-preserved
loop-place-preserved c =
    let i = c.loop-place.place in
    let cell = cell_of_row c.args.row.now in
    (c.in_ok-push.ensures {u = tt}).ok
    ∙ ap (λ (cells : List SpanCell). cells ++ c.cell_of_row.result ∷ []) c.loop-place.invariant
    ∙ ap (λ (one : SpanCell). list_to i cell ++ one ∷ []) c.cell_of_row.ensures
    ∙ sym (list_to-add_one i cell)
