use Rattle.std.proofs.Common.{◌+◌, ◌*◌, map}
use Rattle.math_tree.specs.declared.node.Node.TheViews.{size-Node}
use Rattle.kept_laid.specs.Laid.{laid_kid}
use Rattle.placement.proofs.Lent.{KidsPlaced}
use Rattle.placement.proofs.kept.+kept.Given as goal

-- an element is gone into after its children are
abbrev pub decreases-place_element : goal.decreases-place_element
decreases-place_element l = 2 * size-Node l.element.now.node.now + 1

abbrev pub decreases-place_kids : goal.decreases-place_kids
decreases-place_kids l = 2 * size-Node l.element.now.node.now

-- what the children from here on show completes what there is
abbrev pub invariant-place_kids-loop-kid : goal.invariant-place_kids-loop-kid
invariant-place_kids-loop-kid l =
    KidsPlaced l.x l.y (laid_kid l.metrics l.element) l.fn.items l.rest (map (laid_kid l.metrics) l.kid-items) l.kid-index l.items
