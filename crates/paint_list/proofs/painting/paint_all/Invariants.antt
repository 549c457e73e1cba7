use Rattle.std.proofs.Common.{◌≡◌, take}
use Rattle.paint_list.specs.Paints.{painted}
use Rattle.paint_list.proofs.painting.paint_all.Given as goal

-- what is painted of the items so far
abbrev pub invariant-loop-item : goal.invariant-loop-item
invariant-loop-item l = l.paints ≡ painted l.metrics (take l.item-index l.items)
