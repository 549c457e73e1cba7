use Rattle.std.proofs.Common.{◌≡◌, ◌+◌, take, false}
use Rattle.std.specs.List.{flat_map}
use Rattle.math_tree.specs.Trees.{listed}
use Rattle.tree_edits.specs.Edits.{is_deep}
use Rattle.tree_edits.specs.Paths.{children_of}
use Rattle.tree_edits.proofs.measure.+is_deep.Given as goal

-- no element in the children so far
abbrev pub invariant-loop-child : goal.invariant-loop-child
invariant-loop-child l = is_deep (flat_map (listed (l.level + 1)) (take l.child-index (children_of l.element))) ≡ false
