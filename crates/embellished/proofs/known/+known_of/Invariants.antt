use Rattle.std.proofs.Common.{◌≡◌, map, take}
use Rattle.math_tree.specs.declared.node.Node.TheViews.{out-Node}
use Rattle.embellished.specs.Facts.{facts}
use Rattle.embellished.specs.Known.{known_of}
use Rattle.embellished.proofs.known.+known_of.Given as goal

-- those of the children so far
abbrev pub invariant-loop-child : goal.invariant-loop-child
invariant-loop-child l =
    (l.kids ≡ map facts (take l.child-index (out-Node l.node).children))
    × (l.below ≡ map known_of (take l.child-index (out-Node l.node).children))
