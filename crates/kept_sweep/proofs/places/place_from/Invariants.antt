use Rattle.std.proofs.Common.{◌≡◌, ◌≤◌}
use Rattle.kept_laid.specs.Places.{shown_before}
use Rattle.kept_sweep.proofs.places.place_from.Given as goal

-- so many of the children before the place may be in flow, and the one that is wanted isn't among them
abbrev pub invariant-loop-place : goal.invariant-loop-place
invariant-loop-place l = (l.index ≡ shown_before l.node l.place) × (l.index ≤ l.wanted)
