-- The tree with which generated edits begin.
use Rattle.std.specs.Prelude.{ℕ, ◌+◌, ◌*◌, List, [], ◌∷◌, codes}
use Rattle.fixed_units.specs.Sums.{list_to}
use Rattle.math_tree.specs.Trees.{TreeValue, node}
use Rattle.math_tree.specs.declared.kind.Kind.{Kind}
use Rattle.math_tree.specs.declared.kind.Kind.TheVariants.{Math, Mfrac, Mi, Mn, Mo, Mrow, Msup}
use Rattle.math_tree.specs.declared.node.Node.{Node}

-- an element without attributes
abbrev pub element : ℕ → List ℕ → Kind → List ℕ → List Node → Node
element id name kind text children =
    node
    (record { id = record { 0 = id }; name = name; kind = kind; attributes = []; text = text })
    children

-- how many rows there are, and how many elements in each
abbrev pub row_count : ℕ
row_count = 64

abbrev pub row_size : ℕ
row_size = 13

-- the id of a row, counted from 0: the root has the id 1, and ids rise in document order
abbrev pub row_id : ℕ → ℕ
row_id row = 2 + row_size * row

-- x + 1/2 - b^2 (4), in a row of this id
unfoldable pub start_row : ℕ → Node
start_row id = element id (codes "mrow") Mrow [] (
    element (id + 1) (codes "mi") Mi (codes "x") []
    ∷ element (id + 2) (codes "mo") Mo (codes "+") []
    ∷ element (id + 3) (codes "mfrac") Mfrac [] (
    element (id + 4) (codes "mn") Mn (codes "1") []
    ∷ element (id + 5) (codes "mn") Mn (codes "2") []
    ∷ [])
    ∷ element (id + 6) (codes "mo") Mo (codes "-") []
    ∷ element (id + 7) (codes "msup") Msup [] (
    element (id + 8) (codes "mi") Mi (codes "b") []
    ∷ element (id + 9) (codes "mn") Mn (codes "2") []
    ∷ [])
    ∷ element (id + 10) (codes "mo") Mo (codes "(") []
    ∷ element (id + 11) (codes "mn") Mn (codes "4") []
    ∷ element (id + 12) (codes "mo") Mo (codes ")") []
    ∷ [])

-- 64 such rows
unfoldable pub start_tree : TreeValue
start_tree = record {
  root = element 1 (codes "math") Math [] (list_to row_count (λ row. start_row (row_id row)));
  next_id = row_id row_count;
}
