use Rattle.std.proofs.Common.{◌≡◌, ◌+◌}
use Rattle.tree_edits.proofs.NewIds.{IsNumberedTo, count_to}
use Rattle.tree_edits.specs.Paths.{children_of}
use Rattle.tree_edits.proofs.numbering.+renumber.Given as goal

abbrev pub decreases-renumber : goal.decreases-renumber
decreases-renumber l = goal.size-renumber l

-- the element has its id, and so have the children so far
abbrev pub invariant-loop-place : goal.invariant-loop-place
invariant-loop-place l = record {
  numbered : IsNumberedTo l.fn.id l.place l.fn.element l.element;
  next : l.next ≡ l.fn.id + 1 + count_to l.place (children_of l.fn.element);
}
