use Rattle.std.proofs.Common.{◌≡◌, ℕ}
use Rattle.fixed_units.specs.Sums.{list_to}
use Rattle.layout_model.specs.Equations.{offset_in}
use Rattle.outcomes.specs.Reach.{offset_reached}
use Rattle.outcomes.proofs.pairs.offsets_in.Given as goal

-- the children so far
abbrev pub invariant-loop-kid : goal.invariant-loop-kid
invariant-loop-kid g l = l.offsets ≡ list_to l.kid (λ (kid : ℕ). offset_reached (offset_in l.e l.multi kid))
