use Rattle.std.proofs.Common.{List, ◌++◌, ap, ◌∙◌}
use Rattle.box_pool.specs.declared.cell.Cell.{Cell}
use Rattle.outcome_cells.specs.Cells.{mark_numbers, offset_numbers, own_number, span_numbers}
use Rattle.outcome_cells.proofs.Encoding.{all_put, pieces_of, put_is}
use Rattle.outcome_cells.proofs.encode.put_cells.Goals as goal

pub returns-clause-put : goal.returns-clause-put
returns-clause-put c =
    let o = c.args.outcome.now in
    let cells = put_is own_number o.answer.cells _ _ _ (c.in_ok-put_numbers.ensures {u = tt}) c.as_slice.ensures in
    let spans_put = c.in_ok-put_spans.ensures {u = tt} in
    let spans = put_is span_numbers o.answer.spans _ _ _ spans_put.put c.as_slice-2.ensures in
    let offsets_put = c.in_ok-put_offsets.ensures {u = tt} in
    let offsets = put_is offset_numbers o.offsets _ _ _ offsets_put.put c.as_slice-3.ensures in
    let marks_put = c.in_ok-put_marks.ensures {u = tt} in
    let marks = put_is mark_numbers o.marks _ _ _ marks_put.put c.as_slice-4.ensures in
    all_put _ _ _ _ _ _ _ _ _ _ _ _ _ (c.in_ok-put_frame.ensures {u = tt}) (c.in_ok-put_spaces.ensures {u = tt}) cells spans offsets marks
    ∙ ap (λ (z : List Cell). c.args.cells.now.items ++ z) (pieces_of o)
