use Rattle.std.proofs.Common.{◌≡◌, Some, sym, ap, ◌∙◌}
use Rattle.std.proofs.lemmas.Result.{IfOk-weaker}
use Rattle.box_pool.specs.Region.{cells_in}
use Rattle.outcome_cells.specs.Store.{HasOutcome, StoreValue}
use Rattle.outcome_cells.proofs.Found.{found_again}
use Rattle.outcome_cells.proofs.store.Store.outcome.Goals as goal

pub returns : goal.returns
returns c =
    let runs = c.args.self.now.runs in
    let id = c.args.run.0 in
    let found : cells_in runs id ≡ Some c.get.result.now = ap (λ (store : StoreValue). cells_in store.runs id) (sym c.self.view_is) ∙ c.get.ensures in
    IfOk-weaker c.read_cells.result _ (HasOutcome runs id) (λ read is. found_again runs id _ read c.requires found is) c.read_cells.ensures
