use Rattle.std.proofs.Common.{◌≡◌, map, take}
use Rattle.serde_json.specs.View.{view}
use Rattle.tree_json.specs.Print.{value_of}
use Rattle.math_tree.specs.declared.node.Node.TheViews.{out-Node}
use Rattle.tree_json.proofs.print.+value_of.Given as goal

-- the values of the children so far
abbrev pub invariant-loop-child : goal.invariant-loop-child
invariant-loop-child l = map view l.children.items ≡ map value_of (take l.child-index (out-Node l.node).children)
