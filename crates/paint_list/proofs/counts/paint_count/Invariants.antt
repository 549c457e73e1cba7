use Rattle.std.proofs.Common.{◌≡◌, ◌+◌, min, length, take}
use Rattle.paint_list.specs.Paints.{most_paints, painted}
use Rattle.paint_list.proofs.counts.paint_count.Given as goal

-- the items so far
abbrev pub invariant-loop-item : goal.invariant-loop-item
invariant-loop-item l = l.count ≡ min (length (painted l.metrics (take l.item-index l.items))) (most_paints + 1)
