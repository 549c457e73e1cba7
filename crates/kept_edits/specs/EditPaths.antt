-- The path from the root to the element that an edit changes.
use Rattle.std.specs.Prelude.{◌≡◌, ℕ, true, List, None, Some}
use Rattle.std.specs.List.{list_any}
use Rattle.math_tree.specs.Trees.{IsWhole, TreeValue}
use Rattle.math_tree.specs.declared.node.Node.{Node}
use Rattle.tree_edits.specs.Edits.{has_id, head_of, refusal_of}
use Rattle.tree_edits.specs.Paths.{children_of, node_at}
use Rattle.tree_edits.specs.declared.edit.Edit.{Edit}
use Rattle.tree_edits.specs.declared.edit.Edit.TheVariants.{Text, Attr, Insert, Remove, Replace, Graft, Swap}

-- the element that an edit changes: the one that it names, or the one over it
abbrev pub IsEnd : Edit → Node → Type 0
IsEnd (Text id text) element = has_id id.0 (head_of element) ≡ true
IsEnd (Attr id name value) element = has_id id.0 (head_of element) ≡ true
IsEnd (Insert id index new) element = has_id id.0 (head_of element) ≡ true
IsEnd (Remove id) element =
    list_any (λ child. has_id id.0 (head_of child)) (children_of element) ≡ true
IsEnd (Replace id new) element =
    list_any (λ child. has_id id.0 (head_of child)) (children_of element) ≡ true
IsEnd (Graft id index new) element = has_id id.0 (head_of element) ≡ true
IsEnd (Swap id new) element =
    list_any (λ child. has_id id.0 (head_of child)) (children_of element) ≡ true

-- the path from the root to that element
pub record IsEditPath (tree : TreeValue) (edit : Edit) (path : List ℕ) : Type 0 where
  pub element : Node
  pub at : node_at path tree.root ≡ Some element
  pub ends : IsEnd edit element

-- an edit of a whole tree that isn't refused has such a path, and no edit of one has two
abbrev pub EditPathLaw : Type 0
EditPathLaw = (tree : TreeValue) (edit : Edit) → IsWhole tree →
    (refusal_of tree edit ≡ None → (path : List ℕ) × IsEditPath tree edit path)
    × ((a b : List ℕ) → IsEditPath tree edit a → IsEditPath tree edit b → a ≡ b)
