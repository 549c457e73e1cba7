use Rattle.std.proofs.Common.{◌≡◌, take, None}
use Rattle.hit_test.specs.Hits.{holding}
use Rattle.hit_test.specs.Running.{or_last}
use Rattle.hit_test.proofs.hits.hit.Given as goal

-- the last of the boxes so far that hold the point
abbrev pub invariant-loop-item : goal.invariant-loop-item
invariant-loop-item l = l.last ≡ or_last None (holding l.x l.y (take l.item-index l.placed))
