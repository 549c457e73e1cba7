use Rattle.std.proofs.Common.{◌≡◌, ◌+◌, take}
use Rattle.std.specs.List.{sum_by}
use Rattle.math_tree.specs.Trees.{byte_count, bytes_of_head, element_count}
use Rattle.tree_edits.specs.Edits.{head_of}
use Rattle.tree_edits.specs.Paths.{children_of}
use Rattle.tree_edits.specs.Sizes.{capped}
use Rattle.tree_edits.proofs.measure.Size.+of.Given as goal

-- the element and those in its children so far
abbrev pub invariant-loop-child : goal.invariant-loop-child
invariant-loop-child l = record {
  elements : l.size.elements ≡ capped (1 + sum_by element_count (take l.child-index (children_of l.element)));
  bytes : l.size.bytes ≡ capped (bytes_of_head (head_of l.element) + sum_by byte_count (take l.child-index (children_of l.element)));
}
