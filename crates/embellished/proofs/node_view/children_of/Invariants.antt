use Rattle.std.proofs.Common.{◌≡◌, map, take}
use Rattle.math_tree.specs.declared.node.Node.TheViews.{out-Node}
use Rattle.embellished.specs.Seen.{shown_child}
use Rattle.embellished.proofs.Nodes.{known_from}
use Rattle.embellished.proofs.node_view.children_of.Given as goal

-- those so far
abbrev pub invariant-loop-place : goal.invariant-loop-place
invariant-loop-place l = map shown_child l.made.items ≡ known_from 0 (take l.place (out-Node l.node).children)
