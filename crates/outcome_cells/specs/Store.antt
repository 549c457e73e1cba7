-- A store of outcomes: runs of cells under ids, with one checkpoint.
use Rattle.std.specs.Prelude.{◌≡◌, ℕ, List, [], ◌∷◌, ◌++◌, None, Option, Some}
use Rattle.box_pool.specs.Region.{Region, cells_in}
use Rattle.box_pool.specs.declared.cell.Cell.{Cell}
use Rattle.layout_model.specs.declared.outcome.Outcome.{Outcome}
use Rattle.outcome_cells.specs.Cells.{IsHeld, outcome_cells}

-- runs, each an id with its cells
abbrev pub Runs : Type 0
Runs = List (ℕ × List Cell)

-- what contracts see of a store: its runs, and those at the checkpoint while one is set
pub record StoreValue : Type 0 where
  pub runs : Runs
  pub checkpoint : Option Runs

-- that of a pool: how much room there is isn't seen
abbrev pub store_of : Region → StoreValue
store_of region = record { runs = region.runs; checkpoint = region.checkpoint }

-- the run under an id has the cells of an outcome
pub record HasOutcome (runs : Runs) (id : ℕ) (o : Outcome) : Type 0 where
  pub held : IsHeld o
  pub cells_are : cells_in runs id ≡ Some (outcome_cells o)

-- there is an outcome whose cells it has
pub record HasSomeOutcome (runs : Runs) (id : ℕ) : Type 0 where
  pub outcome : Outcome
  pub has : HasOutcome runs id outcome

-- one run came, under an id that no run had, with the cells of an outcome
pub record PutsOutcome (before after : StoreValue) (id : ℕ) (o : Outcome) : Type 0 where
  pub new : cells_in before.runs id ≡ None
  pub held : IsHeld o
  pub put : after ≡ record before { runs = before.runs ++ (id, outcome_cells o) ∷ [] }
