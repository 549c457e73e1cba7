-- Outcomes that are those of a definition as far as they can be stored.
use Rattle.std.specs.Prelude.{◌≡◌, ◌⊎◌, false}
use Rattle.layout_model.specs.Range.{outcome_fits}
use Rattle.layout_model.specs.declared.outcome.Outcome.{Outcome}

-- the outcome of a definition; or neither can be stored
abbrev pub IsOutcome : Outcome → Outcome → Type 0
IsOutcome exact made = (made ≡ exact) ⊎ ((outcome_fits exact ≡ false) × (outcome_fits made ≡ false))
