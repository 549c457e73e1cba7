-- The elements of a value's tree are those of the value, one by one.
use Rattle.std.proofs.Common.{◌≡◌, ◌∙◌, sym, ap, refl, ℕ, ◌+◌, List, [], ◌∷◌, ◌++◌, length, map, arith}
use Rattle.std.specs.List.{flat_map, AllByRecursion}
use Rattle.serde_json.specs.Data.{Data}
use Rattle.tree_json.specs.Elements.{Element, below, elements}
use Rattle.tree_json.specs.Laws.{entry, entries}
use Rattle.tree_json.specs.Parts.{nodes_of}
use Rattle.tree_json.specs.Reading.{head_of, node_of}
use Rattle.math_tree.specs.Trees.{Listed, listed, listed_first, node}
use Rattle.math_tree.specs.declared.node.Head.{Head}
use Rattle.math_tree.specs.declared.node.Node.{Node}
use Rattle.math_tree.specs.declared.node.Node.TheFolds.{fold-Node, fold-roll-Node}
use Rattle.tree_json.proofs.Below.{by_elements}
use Rattle.tree_json.proofs.Listing.{size, all_elements, elements_out, node_out, size_is}

-- ---- the elements of a node, from those of its children

abbrev pub all_listed : ℕ → List Node → List Listed
all_listed level nodes = flat_map (listed level) nodes

flat_map-map : (level : ℕ) (nodes : List Node)
    → flat_map (λ list. list level) (map (fold-Node (ℕ → List Listed) listed_first) nodes) ≡ all_listed level nodes
unfolding listed
flat_map-map level [] = refl
flat_map-map level (first ∷ nodes) = ap (λ rest. fold-Node (ℕ → List Listed) listed_first first level ++ rest) (flat_map-map level nodes)

length-map : {A B : Type 0} (f : A → B) (xs : List A) → length (map f xs) ≡ length xs
length-map f [] = refl
length-map f (x ∷ xs) = omega (arith, length-map f xs)

pub listed_out : (level : ℕ) (head : Head) (children : List Node)
    → listed level (node head children)
    ≡ record { level = level; head = head; children = length children } ∷ all_listed (level + 1) children
unfolding listed
listed_out level head children =
    let fold = fold-Node (ℕ → List Listed) listed_first in
    let kids : List (ℕ → List Listed) = map fold children in
    let count : length kids ≡ length children = length-map fold children in
    ap (λ f. f level) (fold-roll-Node (ℕ → List Listed) listed_first (record { head = head; children = children }))
    ∙ ap (λ n. record { level = level; head = head; children = n } ∷ flat_map (λ list. list (level + 1)) kids) count
    ∙ ap (◌∷◌ (record { level = level; head = head; children = length children })) (flat_map-map (level + 1) children)

-- ---- element by element

entries-append : (id : ℕ) (front back : List Element)
    → entries id (front ++ back) ≡ entries id front ++ entries (id + length front) back
entries-append id [] back = ap (λ n. entries n back) (omega arith)
entries-append id (element ∷ front) back =
    let next : id + 1 + length front ≡ id + length (element ∷ front) = omega arith in
    ap (◌∷◌ (entry id element)) (entries-append (id + 1) front back ∙ ap (λ n. entries (id + 1) front ++ entries n back) next)

nodes_count : (id : ℕ) (values : List Data) → length (nodes_of id values) ≡ length values
nodes_count id [] = refl
nodes_count id (value ∷ values) = omega (arith, nodes_count (id + size value) values)

abbrev IsEntered : Data → Type 0
IsEntered value = (level id : ℕ) → listed level (node_of id value) ≡ entries id (elements level value)

side_entries : (level id : ℕ) (values : List Data) → AllByRecursion IsEntered values
    → all_listed level (nodes_of id values) ≡ entries id (all_elements level values)
unfolding node_of
side_entries level id [] h = refl
side_entries level id (value ∷ values) h =
    let here = elements level value in
    let rest = all_elements level values in
    let next = side_entries level (id + size value) values h.1 ∙ ap (λ n. entries (id + n) rest) (size_is value level) in
    ap (λ first. first ++ all_listed level (nodes_of (id + size value) values)) (h.0 level id)
    ∙ ap (λ back. entries id here ++ back) next
    ∙ sym (entries-append id here rest)

pub listed_is : (value : Data) → IsEntered value
listed_is = by_elements IsEntered (λ value h level id.
    let kids = below value in
    let head = head_of id value in
    let nodes = nodes_of (id + 1) kids in
    let first : Listed = record { level = level; head = head; children = length nodes } in
    ap (listed level) (node_out id value)
    ∙ listed_out level head nodes
    ∙ ap (◌∷◌ first) (side_entries (level + 1) (id + 1) kids h)
    ∙ ap (λ n. record { level = level; head = head; children = n } ∷ entries (id + 1) (all_elements (level + 1) kids)) (nodes_count (id + 1) kids)
    ∙ ap (entries id) (sym (elements_out level value)))
