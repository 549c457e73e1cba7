use Rattle.std.proofs.Common.{◌≡◌, ◌≤◌, length, take}
use Rattle.embellished.specs.Facts.{but_space_like}
use Rattle.embellished.proofs.OnlyCore.{last_core}
use Rattle.embellished.proofs.facts.only_core.Given as goal

-- so many were no space, and the last of them has this core
abbrev pub invariant-loop-kid : goal.invariant-loop-kid
invariant-loop-kid l =
    (l.others ≡ length (but_space_like (take l.kid-index l.flow))) ×
    (l.others ≤ l.kid-index) × (l.core ≡ last_core (but_space_like (take l.kid-index l.flow)))
