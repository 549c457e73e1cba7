use Rattle.std.proofs.Common.{◌≡◌, ◌++◌, ◌∷◌, take}
use Rattle.std.specs.List.{flat_map}
use Rattle.tree_edits.proofs.Gathered.{ids_in}
use Rattle.tree_edits.specs.Edits.{head_of}
use Rattle.tree_edits.specs.Paths.{children_of}
use Rattle.tree_edits.proofs.free_ids.+gather.Given as goal

-- the id of the element and those in the children so far came
abbrev pub invariant-loop-child : goal.invariant-loop-child
invariant-loop-child l =
    l.ids ≡ l.fn.ids ++ ((head_of l.element).id.0 ∷ flat_map ids_in (take l.child-index (children_of l.element)))
