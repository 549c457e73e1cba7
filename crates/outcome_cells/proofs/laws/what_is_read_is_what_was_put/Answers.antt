use Rattle.std.proofs.Common.{◌≡◌, List, ◌++◌, sym, ap, ◌∙◌}
use Rattle.box_pool.specs.declared.cell.Cell.{Cell}
use Rattle.outcome_cells.specs.Cells.{outcome_cells}
use Rattle.outcome_cells.proofs.OneOutcome.{one_outcome}
use Rattle.outcome_cells.proofs.laws.what_is_read_is_what_was_put.Goals as goal

pub returns : goal.returns
returns c =
    let o = c.args.outcome.now in
    let put = c.in_ok-put_cells.ensures {u = tt} in
    let made : c.put_cells.new.cells.items ≡ outcome_cells o = put.put ∙ ap (λ (z : List Cell). z ++ outcome_cells o) c.new-cells.ensures.items in
    one_outcome c.in_ok-read.read o (sym c.in_ok-read.ensures ∙ (c.as_slice.ensures.value ∙ made))
