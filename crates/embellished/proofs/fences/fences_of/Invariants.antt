use Rattle.std.proofs.Common.{◌≡◌, take}
use Rattle.embellished.specs.Fences.{fences_in}
use Rattle.embellished.specs.Seen.{seen_of}
use Rattle.embellished.proofs.fences.fences_of.Given as goal

-- those of the children so far
abbrev pub invariant-loop-index : goal.invariant-loop-index
invariant-loop-index g l = l.fences ≡ fences_in (take l.index (seen_of (g.V.View.element l.parent)).kids)
