-- The elements of a node whose ids are given anew: the same ones, whose ids rise by one in document
-- order.
use Rattle.std.proofs.Common.{◌≡◌, ◌∙◌, sym, ap, refl, ℕ, ◌+◌, ◌≤◌, ◌<◌, List, [], ◌∷◌, ◌++◌, length, map, All, false, ◌||◌, nat_eq, nat_lt, arith}
use Rattle.std.proofs.lemmas.Bool.{ne_eqb}
use Rattle.std.proofs.lemmas.List.Elements.{recursion_from_All, All-from_recursion}
use Rattle.std.proofs.lemmas.List.Sums.{sum_by-cons}
use Rattle.std.specs.List.{AllByRecursion, IsDistinct, flat_map, sum_by}
use Rattle.math_tree.proofs.Counts.{elements_are}
use Rattle.math_tree.proofs.Nodes.{by_children, listed_element}
use Rattle.math_tree.specs.Forms.{most_levels}
use Rattle.math_tree.specs.Numbering.{with_id, renumbered_layer, renumbered, Planted, nodes_from}
use Rattle.math_tree.specs.Trees.{Listed, node, listed, ids_of, element_count, byte_count, bytes_of_head, IsProper}
use Rattle.math_tree.specs.declared.node.Node.{Node}
use Rattle.math_tree.specs.declared.node.Node.TheFolds.{fold-Node, fold_out-Node}
use Rattle.tree_edits.proofs.Frames.{entry, listed_out, head_rolled, children_rolled}
use Rattle.tree_edits.proofs.Levels.{length_at, bytes_in}
use Rattle.tree_edits.specs.Edits.{head_of, is_deep}
use Rattle.tree_edits.specs.Paths.{children_of}
use Rattle.tree_edits.specs.Reasons.{shown}

-- ---- the nodes

abbrev planted_as : Node → Planted
planted_as n = fold-Node Planted renumbered_layer n

abbrev IsSized : Node → Type 0
IsSized n = (planted_as n).size ≡ element_count n

sizes_are : (nodes : List Node) → AllByRecursion IsSized nodes
    → sum_by (λ part. part.size) (map planted_as nodes) ≡ sum_by element_count nodes
sizes_are [] h = refl
sizes_are (n ∷ nodes) h =
    let parts = sum_by-cons (λ (part : Planted). part.size) (planted_as n) (map planted_as nodes) in
    let counts = sum_by-cons element_count n nodes in
    omega (arith, parts, counts, h.0, sizes_are nodes h.1)

size_is : (n : Node) → IsSized n
size_is = by_children IsSized (λ n h.
    ap (λ part. part.size) (fold_out-Node Planted renumbered_layer n)
    ∙ ap (λ s. 1 + s) (sizes_are (children_of n) h)
    ∙ sym (elements_are n))

-- nodes side by side: each begins where the one before ends
abbrev pub all_renumbered : ℕ → List Node → List Node
all_renumbered id [] = []
all_renumbered id (n ∷ nodes) = renumbered id n ∷ all_renumbered (id + element_count n) nodes

parts_are : (id : ℕ) (nodes : List Node) → nodes_from id (map planted_as nodes) ≡ all_renumbered id nodes
unfolding renumbered
parts_are id [] = refl
parts_are id (n ∷ nodes) =
    ap (λ size. renumbered id n ∷ nodes_from (id + size) (map planted_as nodes)) (size_is n)
    ∙ ap (◌∷◌ (renumbered id n)) (parts_are (id + element_count n) nodes)

-- an element gets the id, and its children those behind it
pub renumbered_out : (id : ℕ) (n : Node)
    → renumbered id n ≡ node (with_id id (head_of n)) (all_renumbered (id + 1) (children_of n))
unfolding renumbered
renumbered_out id n =
    ap (λ part. part.node id) (fold_out-Node Planted renumbered_layer n)
    ∙ ap (node (with_id id (head_of n))) (parts_are (id + 1) (children_of n))

pub head_renumbered : (id : ℕ) (n : Node) → head_of (renumbered id n) ≡ with_id id (head_of n)
head_renumbered id n = ap head_of (renumbered_out id n) ∙ head_rolled (with_id id (head_of n)) (all_renumbered (id + 1) (children_of n))

pub children_renumbered : (id : ℕ) (n : Node) → children_of (renumbered id n) ≡ all_renumbered (id + 1) (children_of n)
children_renumbered id n = ap children_of (renumbered_out id n) ∙ children_rolled (with_id id (head_of n)) (all_renumbered (id + 1) (children_of n))

pub length_renumbered : (id : ℕ) (nodes : List Node) → length (all_renumbered id nodes) ≡ length nodes
length_renumbered id [] = refl
length_renumbered id (n ∷ nodes) = omega (arith, length_renumbered (id + element_count n) nodes)

-- ---- the elements

abbrev pub with_own_id : ℕ → Listed → Listed
with_own_id id e = entry e.level (with_id id e.head) e.children

-- elements whose ids rise by one
abbrev pub numbered : ℕ → List Listed → List Listed
numbered id [] = []
numbered id (e ∷ elements) = with_own_id id e ∷ numbered (id + 1) elements

numbered-append : (id : ℕ) (front back : List Listed)
    → numbered id (front ++ back) ≡ numbered id front ++ numbered (id + length front) back
numbered-append id [] back = ap (λ n. numbered n back) (omega arith)
numbered-append id (e ∷ front) back =
    let next : id + 1 + length front ≡ id + length (e ∷ front) = omega arith in
    ap (◌∷◌ (with_own_id id e)) (numbered-append (id + 1) front back ∙ ap (λ n. numbered (id + 1) front ++ numbered n back) next)

abbrev IsNumbered : Node → Type 0
IsNumbered n = (level id : ℕ) → listed level (renumbered id n) ≡ numbered id (listed level n)

all_numbered : (nodes : List Node) (level id : ℕ) → AllByRecursion IsNumbered nodes
    → flat_map (listed level) (all_renumbered id nodes) ≡ numbered id (flat_map (listed level) nodes)
all_numbered [] level id h = refl
all_numbered (n ∷ nodes) level id h =
    let first = listed level n in
    let others = flat_map (listed level) nodes in
    let next = all_numbered nodes level (id + element_count n) h.1 ∙ ap (λ c. numbered (id + c) others) (sym (length_at level n)) in
    ap (λ l. l ++ flat_map (listed level) (all_renumbered (id + element_count n) nodes)) (h.0 level id)
    ∙ ap (λ l. numbered id first ++ l) next
    ∙ sym (numbered-append id first others)

-- an element and all below it have the ids from this on, and are else the same
pub listed_renumbered : (n : Node) → IsNumbered n
listed_renumbered = by_children IsNumbered (λ n h level id.
    let head = with_id id (head_of n) in
    let kids = all_renumbered (id + 1) (children_of n) in
    ap (listed level) (renumbered_out id n)
    ∙ listed_out level head kids
    ∙ ap (λ c. entry level head c ∷ flat_map (listed (level + 1)) kids) (length_renumbered (id + 1) (children_of n))
    ∙ ap (◌∷◌ (with_own_id id (shown level n))) (all_numbered (children_of n) (level + 1) (id + 1) h)
    ∙ sym (ap (numbered id) (listed_element level n)))

-- ---- what stays: how many, their bytes and levels, and that they are proper

length_numbered : (id : ℕ) (elements : List Listed) → length (numbered id elements) ≡ length elements
length_numbered id [] = refl
length_numbered id (e ∷ elements) = omega (arith, length_numbered (id + 1) elements)

bytes_numbered : (id : ℕ) (elements : List Listed) → bytes_in (numbered id elements) ≡ bytes_in elements
bytes_numbered id [] = refl
bytes_numbered id (e ∷ elements) =
    let before = sum_by-cons (λ (e : Listed). bytes_of_head e.head) e elements in
    let after = sum_by-cons (λ (e : Listed). bytes_of_head e.head) (with_own_id id e) (numbered (id + 1) elements) in
    omega (arith, before, after, bytes_numbered (id + 1) elements)

deep_numbered : (id : ℕ) (elements : List Listed) → is_deep (numbered id elements) ≡ is_deep elements
deep_numbered id [] = refl
deep_numbered id (e ∷ elements) = ap (λ rest. nat_lt most_levels e.level || rest) (deep_numbered (id + 1) elements)

pub count_renumbered : (id : ℕ) (n : Node) → element_count (renumbered id n) ≡ element_count n
count_renumbered id n = ap length (listed_renumbered n 1 id) ∙ length_numbered id (listed 1 n)

pub bytes_renumbered : (id : ℕ) (n : Node) → byte_count (renumbered id n) ≡ byte_count n
bytes_renumbered id n = ap bytes_in (listed_renumbered n 1 id) ∙ bytes_numbered id (listed 1 n)

pub deep_renumbered : (level id : ℕ) (n : Node) → is_deep (listed level (renumbered id n)) ≡ is_deep (listed level n)
deep_renumbered level id n = ap is_deep (listed_renumbered n level id) ∙ deep_numbered id (listed level n)

proper_with_id : (id : ℕ) (e : Listed) → IsProper e → IsProper (with_own_id id e)
proper_with_id id e p = record {
  kind = p.kind;
  name = p.name;
  attributes = p.attributes;
  order = p.order;
  text = p.text;
  childless = p.childless;
  textless = p.textless;
}

proper_numbered : (id : ℕ) (elements : List Listed) → AllByRecursion IsProper elements → AllByRecursion IsProper (numbered id elements)
proper_numbered id [] h = tt
proper_numbered id (e ∷ elements) h = (proper_with_id id e h.0, proper_numbered (id + 1) elements h.1)

pub proper_renumbered : (level id : ℕ) (n : Node) → All IsProper (listed level n) → All IsProper (listed level (renumbered id n))
proper_renumbered level id n h =
    rw (listed_renumbered n level id)
    (All-from_recursion IsProper (numbered id (listed level n)) (proper_numbered id (listed level n) (recursion_from_All IsProper (listed level n) h)))

-- ---- the ids

ids_from : (low id : ℕ) (elements : List Listed) → low ≤ id → AllByRecursion (λ n. low ≤ n) (ids_of (numbered id elements))
ids_from low id [] h = tt
ids_from low id (e ∷ elements) h = (h, ids_from low (id + 1) elements (omega (arith, h)))

ids_below : (bound id : ℕ) (elements : List Listed) → id + length elements ≤ bound → AllByRecursion (λ n. n < bound) (ids_of (numbered id elements))
ids_below bound id [] h = tt
ids_below bound id (e ∷ elements) h = (omega (arith, h), ids_below bound (id + 1) elements (omega (arith, h)))

ids_other : (a id : ℕ) (elements : List Listed) → a < id → AllByRecursion (λ n. nat_eq a n ≡ false) (ids_of (numbered id elements))
ids_other a id [] h = tt
ids_other a id (e ∷ elements) h = (ne_eqb a id (λ same. omega (arith, same, h)), ids_other a (id + 1) elements (omega (arith, h)))

ids_distinct : (id : ℕ) (elements : List Listed) → IsDistinct nat_eq (ids_of (numbered id elements))
unfolding IsDistinct
ids_distinct id [] = tt
ids_distinct id (e ∷ elements) = (ids_other id (id + 1) elements (omega arith), ids_distinct (id + 1) elements)

-- they differ, and are the given one or above it, and below that plus the number of elements
pub record HasNewIds (id count : ℕ) (elements : List Listed) : Type 0 where
  pub distinct : IsDistinct nat_eq (ids_of elements)
  pub new : AllByRecursion (λ n. id ≤ n) (ids_of elements)
  pub given : AllByRecursion (λ n. n < id + count) (ids_of elements)

pub new_ids : (level id : ℕ) (n : Node) → HasNewIds id (element_count n) (listed level (renumbered id n))
new_ids level id n =
    let elements = listed level n in
    rw (listed_renumbered n level id) (record {
      distinct = ids_distinct id elements;
      new = ids_from id id elements (omega arith);
      given = ids_below (id + element_count n) id elements (omega (arith, length_at level n));
    })
