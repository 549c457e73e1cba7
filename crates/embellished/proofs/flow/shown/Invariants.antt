use Rattle.std.proofs.Common.{◌≡◌, take}
use Rattle.embellished.specs.Flow.{shown_by}
use Rattle.embellished.proofs.flow.shown.Given as goal

-- those so far
abbrev pub invariant-loop-kid : goal.invariant-loop-kid
invariant-loop-kid g l = l.flow.items ≡ shown_by g.T.LaidOut.kind l.laid (take l.kid-index l.kids)
