use Rattle.std.proofs.Common.{◌≡◌, ◌+◌, [], take, false}
use Rattle.std.specs.List.{flat_map, list_any}
use Rattle.math_tree.specs.Trees.{listed}
use Rattle.tree_edits.specs.Edits.{has_id}
use Rattle.tree_edits.specs.Paths.{children_of}
use Rattle.tree_edits.proofs.path.+find.Given as goal

-- no element has the id in the children so far, and there is no way yet
abbrev pub invariant-loop-place : goal.invariant-loop-place
invariant-loop-place l =
    (list_any (λ e. has_id l.id.0 e.head) (flat_map (listed (l.level + 1)) (take l.place (children_of l.node))) ≡ false) × (l.path ≡ [])
