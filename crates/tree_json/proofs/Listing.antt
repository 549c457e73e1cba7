-- The list of a value's elements, and its tree, from those of the elements right below it.
use Rattle.std.proofs.Common.{◌≡◌, ◌∙◌, ap, refl, ℕ, ◌+◌, List, [], ◌∷◌, ◌++◌, length, map, arith}
use Rattle.std.proofs.lemmas.List.{length-append}
use Rattle.std.proofs.lemmas.List.Sums.{sum_by-cons}
use Rattle.std.specs.List.{flat_map, sum_by, AllByRecursion}
use Rattle.serde_json.specs.Data.{Data}
use Rattle.tree_json.specs.Elements.{Element, over, below, element_first, elements}
use Rattle.tree_json.specs.Parts.{nodes_of}
use Rattle.tree_json.specs.Reading.{planted, head_of, node_of}
use Rattle.math_tree.specs.Trees.{node}
use Rattle.tree_json.proofs.Below.{over_out, by_elements}

-- the elements of values that stand side by side
abbrev pub all_elements : ℕ → List Data → List Element
all_elements level values = flat_map (elements level) values

flat_map-map : (level : ℕ) (values : List Data)
    → flat_map (λ list. list level) (map (over element_first) values) ≡ all_elements level values
unfolding elements
flat_map-map level [] = refl
flat_map-map level (value ∷ values) = ap (λ rest. over element_first value level ++ rest) (flat_map-map level values)

-- an element comes first, and then those below it
pub elements_out : (level : ℕ) (value : Data)
    → elements level value ≡ record { level = level; value = value } ∷ all_elements (level + 1) (below value)
unfolding elements
elements_out level value =
    let first : Element = record { level = level; value = value } in
    ap (λ f. f level) (over_out element_first value) ∙ ap (◌∷◌ first) (flat_map-map (level + 1) (below value))

pub node_out : (id : ℕ) (value : Data)
    → node_of id value ≡ node (head_of id value) (nodes_of (id + 1) (below value))
unfolding node_of
node_out id value = ap (λ part. part.node id) (over_out planted value)

-- ---- a part has as many elements as are listed

abbrev pub size : Data → ℕ
size value = (over planted value).size

abbrev IsListed : Data → Type 0
IsListed value = (level : ℕ) → size value ≡ length (elements level value)

sizes : (level : ℕ) (values : List Data) → AllByRecursion IsListed values
    → sum_by (λ part. part.size) (map (over planted) values) ≡ length (all_elements level values)
sizes level [] h = refl
sizes level (value ∷ values) h =
    let first = sum_by-cons (λ part. part.size) (over planted value) (map (over planted) values) in
    let append = length-append (elements level value) (all_elements level values) in
    omega (arith, first, append, h.0 level, sizes level values h.1)

pub size_is : (value : Data) (level : ℕ) → size value ≡ length (elements level value)
size_is = by_elements IsListed (λ value h level.
    let part = ap (λ part. part.size) (over_out planted value) in
    let list = ap length (elements_out level value) in
    omega (arith, part, list, sizes (level + 1) (below value) h))

-- of values side by side, the last begins behind the elements of those before
pub nodes_more : (level id : ℕ) (values : List Data) (value : Data)
    → nodes_of id (values ++ value ∷ []) ≡ nodes_of id values ++ node_of (id + length (all_elements level values)) value ∷ []
unfolding node_of
nodes_more level id [] value = ap (λ n. node_of n value ∷ []) (omega arith)
nodes_more level id (first ∷ values) value =
    let append = length-append (elements level first) (all_elements level values) in
    let here : id + size first + length (all_elements level values) ≡ id + length (all_elements level (first ∷ values)) =
    omega (arith, append, size_is first level) in
    ap (◌∷◌ (node_of id first)) (nodes_more level (id + size first) values value
    ∙ ap (λ n. nodes_of (id + size first) values ++ node_of n value ∷ []) here)
