use Rattle.std.proofs.Common.{◌≡◌, List, ◌++◌, ap, ◌∙◌}
use Rattle.box_pool.specs.declared.cell.Cell.{Cell}
use Rattle.outcome_cells.specs.Cells.{outcome_cells}
use Rattle.outcome_cells.specs.Store.{store_of}
use Rattle.outcome_cells.proofs.Found.{puts_from}
use Rattle.outcome_cells.proofs.store.Store.put.Goals as goal

pub returns-clause-put : goal.returns-clause-put
returns-clause-put c =
    let o = c.args.outcome.now in
    let listed = c.in_ok-put_cells.ensures {u = tt} in
    let reserved = c.in_ok-reserve.ensures {u = tt} in
    let cells : c.as_slice.result.now ≡ outcome_cells o = c.as_slice.ensures.value ∙ listed.put ∙ ap (λ (z : List Cell). z ++ outcome_cells o) c.clear.ensures.items in
    puts_from c.args.self.now c.self.inside.pool c.reserve.new.self c.put.new.self c.put.result.0 o _ c.self.view_is (ap store_of reserved.same) c.put.ensures.id
    (ap store_of c.put.ensures.put) listed.held cells
