use Rattle.std.proofs.Common.{length, take}
use Rattle.hit_test.specs.Elements.{children_of, flow_tree}
use Rattle.hit_test.proofs.Looking.{Looks}
use Rattle.hit_test.proofs.look.+look.Given as goal

abbrev pub decreases-look : goal.decreases-look
decreases-look l = goal.size-look l

-- what was seen of the children so far
abbrev pub invariant-loop-index : goal.invariant-loop-index
invariant-loop-index l =
    let kids = children_of (flow_tree l.node) in
    Looks l.first.0 l.second.0 l.node (take l.index kids) (length kids) l.sight l.span
