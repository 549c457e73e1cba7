-- What holds of the cells of all outcomes, and of runs that have outcomes.
use Rattle.std.specs.Prelude.{◌≡◌, ℕ, true, List, [], ◌∷◌, ◌++◌, None}
use Rattle.box_pool.specs.Region.{cells_in, kept_of}
use Rattle.box_pool.specs.Runs.{is_listed}
use Rattle.box_pool.specs.declared.pool.RunId.{RunId}
use Rattle.layout_model.specs.declared.outcome.Outcome.{Outcome}
use Rattle.outcome_cells.specs.Cells.{IsHeld, outcome_cells}
use Rattle.outcome_cells.specs.Store.{HasOutcome, Runs}

-- no list of cells stands for two outcomes
abbrev pub OneOutcomeLaw : Type 0
OneOutcomeLaw = (a b : Outcome) → outcome_cells a ≡ outcome_cells b → a ≡ b

-- no run has two outcomes
abbrev pub OneForRunLaw : Type 0
OneForRunLaw = (runs : Runs) (id : ℕ) (a b : Outcome) → HasOutcome runs id a → HasOutcome runs id b
    → a ≡ b

-- each run that had an outcome has it still
abbrev pub KeepsOutcomes : Runs → Runs → Type 0
KeepsOutcomes before after = (id : ℕ) (o : Outcome) → HasOutcome before id o → HasOutcome after id o

-- where a run comes under an id that no run had, it has its outcome, and so has each other one
pub record FindsOutcomes (before after : Runs) (id : ℕ) (o : Outcome) : Type 0 where
  pub new : HasOutcome after id o
  pub others : KeepsOutcomes before after

abbrev pub PutOutcomeLaw : Type 0
PutOutcomeLaw = (runs : Runs) (id : ℕ) (o : Outcome) → cells_in runs id ≡ None → IsHeld o
    → FindsOutcomes runs (runs ++ (id, outcome_cells o) ∷ []) id o

-- after a sweep each listed run has the outcome that it had
abbrev pub SweepOutcomeLaw : Type 0
SweepOutcomeLaw = (runs : Runs) (keep : List RunId) (id : ℕ) (o : Outcome)
    → is_listed keep id ≡ true → HasOutcome runs id o → HasOutcome (kept_of keep runs) id o
