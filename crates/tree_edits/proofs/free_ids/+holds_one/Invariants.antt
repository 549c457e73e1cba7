use Rattle.std.proofs.Common.{◌≡◌, take, false}
use Rattle.std.specs.List.{flat_map, list_any}
use Rattle.tree_edits.proofs.Gathered.{ids_in}
use Rattle.tree_edits.specs.FreeIds.{is_among}
use Rattle.tree_edits.specs.Paths.{children_of}
use Rattle.tree_edits.proofs.free_ids.+holds_one.Given as goal

-- none of the ids in the children so far is one of them
abbrev pub invariant-loop-child : goal.invariant-loop-child
invariant-loop-child l = list_any (is_among l.ids.keys) (flat_map ids_in (take l.child-index (children_of l.element))) ≡ false
