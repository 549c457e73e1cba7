use Rattle.std.proofs.Common.{◌≡◌, ◌∙◌, ap, lit<, pos, to_z, of_z, w64}
use Rattle.font_metrics.proofs.Scaling.{back64, size_in}
use Rattle.layout_model.specs.Elements.{along, font, outcome, row_in}
use Rattle.math_tables.specs.Cells.{cell_of, cell_start_of}
use Rattle.outcomes.proofs.row.cell_outcome.Goals as goal

pub returns : goal.returns
returns g c =
    let e = c.args.e.now in
    let row : c.in_ok-row.row ≡ row_in e = (c.in_ok-row.ensures {u = tt}).value in
    let size : to_z w64 (of_z w64 c.size.result) ≡ font e =
    back64 (size_in c.size.result c.size.ensures.low c.size.ensures.high) (lit< tt) ∙ c.size.ensures.value in
    let again : to_z w64 (of_z w64 c.size-2.result) ≡ font e =
    back64 (size_in c.size-2.result c.size-2.ensures.low c.size-2.ensures.high) (lit< tt) ∙ c.size-2.ensures.value in
    let start : to_z w64 (of_z w64 c.cell_start.result) ≡ cell_start_of (font e) =
    back64 c.cell_start.ensures.within (lit< tt) ∙ c.cell_start.ensures.value ∙ ap cell_start_of again in
    let frame = c.cell-frame.ensures ∙ (λ i. cell_of (c.metrics.ensures i) (row i).frame (size i)) in
    let offsets = c.in_ok-offsets.ensures {u = tt} ∙ (λ i. along e (row i) (start i) (pos 0)) in
    c.outcome.ensures ∙ (λ i. outcome e (frame i) (offsets i) (c.make.ensures i))
