use Rattle.std.proofs.Common.{◌≡◌, ◌≤◌, ◌+◌, take}
use Rattle.tree_edits.proofs.Noted.{elements_in}
use Rattle.tree_edits.proofs.parents.Parents.+note_below.Given as goal

-- no more notes came than there are elements in the children so far
abbrev pub invariant-loop-child : goal.invariant-loop-child
invariant-loop-child l = record {
  few : l.self.count ≤ l.initial.self.count + elements_in (take l.child-index l.child-items);
  most : l.self.most ≡ l.initial.self.most;
}
