use Rattle.std.proofs.Common.{◌≡◌, ◌∙◌, lit<, pos, to_z, of_z, w64}
use Rattle.fixed_units.specs.Sums.{list_to}
use Rattle.font_metrics.proofs.Scaling.{back64, size_in}
use Rattle.math_tables.specs.Placing.{row_offsets_of, table_frame_of}
use Rattle.layout_model.specs.Elements.{font, offset, outcome}
use Rattle.layout_model.specs.Equations.{row_at}
use Rattle.layout_model.specs.Tables.{table_columns, table_rows}
use Rattle.outcomes.proofs.table.table_outcome.Goals as goal

pub returns : goal.returns
returns g c =
    let e = c.args.e.now in
    let rows : c.in_ok-rows.rows ≡ table_rows e.kids = (c.in_ok-rows.ensures {u = tt}).value in
    let widths : c.in_ok-widths.widths ≡ table_columns e.kids = (c.in_ok-widths.ensures {u = tt}).value in
    let size : to_z w64 (of_z w64 c.size.result) ≡ font e =
    back64 (size_in c.size.result c.size.ensures.low c.size.ensures.high) (lit< tt) ∙ c.size.ensures.value in
    let table = c.in_ok-table.ensures {u = tt} in
    let frame = table.frame ∙ (λ i. table_frame_of (c.metrics.ensures i) (rows i) (widths i) (size i)) in
    let below = c.as_slice.ensures ∙ table.offsets ∙ (λ i. row_offsets_of (c.metrics.ensures i) (rows i) (size i)) in
    let places = c.in_ok-places.ensures {u = tt} ∙ (λ i. list_to (c.count-count.ensures.seen i) (λ index. offset index (pos 0) (row_at (below i) index))) in
    c.outcome.ensures ∙ (λ i. outcome e (frame i) (places i) (c.make.ensures i))
