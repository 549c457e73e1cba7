-- The paths of two edits of a small tree.
use Rattle.std.proofs.Common.{◌≡◌, ◌∙◌, refl, sym, ap, ℕ, List, [], ◌∷◌, codes, slice_get, Some, true, true≢false}
use Rattle.std.proofs.lemmas.Option.{same_Some}
use Rattle.std.specs.List.{list_any}
use Rattle.std.specs.Option.{option_and_then}
use Rattle.math_tree.specs.Trees.{TreeValue, node}
use Rattle.math_tree.specs.declared.kind.Kind.{Kind}
use Rattle.math_tree.specs.declared.kind.Kind.TheVariants.{Math, Mi, Mrow}
use Rattle.math_tree.specs.declared.node.Head.{Head}
use Rattle.math_tree.specs.declared.node.Node.{Node}
use Rattle.math_tree.specs.declared.node.NodeId.{NodeId}
use Rattle.tree_edits.specs.Edits.{has_id, head_of}
use Rattle.tree_edits.specs.Paths.{children_of, node_at}
use Rattle.tree_edits.specs.declared.edit.Edit.TheVariants.{Remove, Text}
use Rattle.tree_edits.proofs.Frames.{children_rolled, head_rolled}
use Rattle.kept_edits.specs.ByIds.{IsOnPath}
use Rattle.kept_edits.specs.EditPaths.{IsEditPath}

abbrev head : ℕ → List ℕ → Kind → List ℕ → Head
head id name kind text = record { id = record { 0 = id }; name = name; kind = kind; attributes = []; text = text }

abbrev x : Node
x = node (head 2 (codes "mi") Mi (codes "x")) []

abbrev y : Node
y = node (head 4 (codes "mi") Mi (codes "y")) []

abbrev row : Node
row = node (head 3 (codes "mrow") Mrow []) (y ∷ [])

-- a letter and a row of one letter in a `math`
abbrev tree : TreeValue
tree = record { root = node (head 1 (codes "math") Math []) (x ∷ row ∷ []); next_id = 5 }

abbrev id : ℕ → NodeId
id n = record { 0 = n }

row_there : node_at (1 ∷ []) tree.root ≡ Some row
row_there = ap (λ (l : List Node). option_and_then (node_at []) (slice_get l 1)) (children_rolled (head 1 (codes "math") Math []) (x ∷ row ∷ []))

y_there : node_at (1 ∷ 0 ∷ []) tree.root ≡ Some y
y_there =
    ap (λ (l : List Node). option_and_then (node_at (0 ∷ [])) (slice_get l 1)) (children_rolled (head 1 (codes "math") Math []) (x ∷ row ∷ []))
    ∙ ap (λ (l : List Node). option_and_then (node_at []) (slice_get l 0)) (children_rolled (head 3 (codes "mrow") Mrow []) (y ∷ []))

y_has : has_id 4 (head_of y) ≡ true
y_has = ap (has_id 4) (head_rolled (head 4 (codes "mi") Mi (codes "y")) [])

-- that of a new text ends at the letter
text_path : IsEditPath tree (Text (id 4) (codes "z")) (1 ∷ 0 ∷ [])
text_path = record { element = y; at = y_there; ends = y_has }

-- where the letter is removed, it ends at the row
row_has : list_any (λ n. has_id 4 (head_of n)) (children_of row) ≡ true
row_has =
    ap (list_any (λ n. has_id 4 (head_of n))) (children_rolled (head 3 (codes "mrow") Mrow []) (y ∷ []))
    ∙ ap (λ (h : Head). list_any (has_id 4) (h ∷ [])) (head_rolled (head 4 (codes "mi") Mi (codes "y")) [])

remove_path : IsEditPath tree (Remove (id 4)) (1 ∷ [])
remove_path = record { element = row; at = row_there; ends = row_has }

remove_no_path : IsEditPath tree (Remove (id 4)) (1 ∷ 0 ∷ []) → ⊥
remove_no_path h =
    true≢false
    (sym h.ends ∙ ap (λ (n : Node). list_any (λ c. has_id 4 (head_of c)) (children_of n)) (same_Some h.element y (sym h.at ∙ y_there))
    ∙ ap (list_any (λ c. has_id 4 (head_of c))) (children_rolled (head 4 (codes "mi") Mi (codes "y")) []))

-- and so the row is on it, and the root
row_on_it : IsOnPath tree (Remove (id 4)) 3
row_on_it = record {
  path = 1 ∷ [];
  to_end = remove_path;
  front = 1 ∷ [];
  rest = [];
  parts = refl;
  element = row;
  at = row_there;
  has = ap (has_id 3) (head_rolled (head 3 (codes "mrow") Mrow []) (y ∷ []));
}

root_on_it : IsOnPath tree (Remove (id 4)) 1
root_on_it = record {
  path = 1 ∷ [];
  to_end = remove_path;
  front = [];
  rest = 1 ∷ [];
  parts = refl;
  element = tree.root;
  at = refl;
  has = ap (has_id 1) (head_rolled (head 1 (codes "math") Math []) (x ∷ row ∷ []));
}
