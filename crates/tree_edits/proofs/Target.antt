-- The element that an edit names, among the elements of a tree: it is the one at the end of the way
-- to it, and stands at level 1 exactly where that way is empty.
use Rattle.std.proofs.Common.{◌≡◌, ◌∙◌, ap, refl, subst, ℕ, ◌+◌, List, [], ◌∷◌, ◌++◌, length, true, false, nat_eq, Option, Some, None, arith}
use Rattle.std.proofs.lemmas.Bool.{eqb-true, eqb-false, ne_eqb, cond-true, cond-false, or_parts}
use Rattle.std.specs.List.{AllByRecursion, IsDistinct, find, flat_map, list_any}
use Rattle.math_tree.proofs.Nodes.{listed_element}
use Rattle.math_tree.specs.Trees.{TreeValue, Listed, listed, ids_of, IsWhole}
use Rattle.math_tree.specs.declared.node.Node.{Node}
use Rattle.tree_edits.proofs.Frames.{framed, before_change}
use Rattle.tree_edits.specs.Edits.{has_id, head_of}
use Rattle.tree_edits.specs.Paths.{children_of, node_at}
use Rattle.tree_edits.specs.Reasons.{shown}

-- the first element of an id
abbrev pub first_of_id : ℕ → List Listed → Option Listed
first_of_id id elements = find (λ e. has_id id e.head) elements

-- none before it has the same id
first_apart : (id a : ℕ) (front : List Listed) (e : Listed) (back : List Listed) → has_id id e.head ≡ true
    → AllByRecursion (λ n. nat_eq a n ≡ false) (ids_of (front ++ (e ∷ back))) → nat_eq a id ≡ false
first_apart id a [] e back has h = subst (λ n. nat_eq a n ≡ false) (eqb-true e.head.id.0 id has) h.0
first_apart id a (f ∷ front) e back has h = first_apart id a front e back has h.1

-- where ids differ, an element that has it is the first that has it
found_between : (id : ℕ) (front : List Listed) (e : Listed) (back : List Listed) → has_id id e.head ≡ true
    → IsDistinct nat_eq (ids_of (front ++ (e ∷ back))) → first_of_id id (front ++ (e ∷ back)) ≡ Some e
unfolding IsDistinct
found_between id [] e back has d = cond-true (has_id id e.head) (Some e) (first_of_id id back) has
found_between id (f ∷ front) e back has d =
    cond-false (has_id id f.head) (Some f) (first_of_id id (front ++ (e ∷ back))) (first_apart id f.head.id.0 front e back has d.0)
    ∙ found_between id front e back has d.1

-- the element at the end of a way is the one that has its id
pub found_at : (tree : TreeValue) (id : ℕ) (path : List ℕ) (element : Node) → IsWhole tree
    → node_at path tree.root ≡ Some element → has_id id (head_of element) ≡ true
    → first_of_id id (listed 1 tree.root) ≡ Some (shown (1 + length path) element)
found_at tree id path element whole at has =
    let level = 1 + length path in
    let frame = framed 1 path tree.root element at in
    let below = flat_map (listed (level + 1)) (children_of element) in
    let split : listed 1 tree.root ≡ frame.front ++ (shown level element ∷ (below ++ frame.back)) =
    before_change 1 path tree.root element at frame
    ∙ ap (λ l. frame.front ++ (l ++ frame.back)) (listed_element level element) in
    ap (first_of_id id) split
    ∙ found_between id frame.front (shown level element) (below ++ frame.back) has
    (subst (λ l. IsDistinct nat_eq (ids_of l)) split whole.distinct)

-- and there is none where no element has the id
pub found_nowhere : (id : ℕ) (elements : List Listed) → list_any (λ e. has_id id e.head) elements ≡ false
    → first_of_id id elements ≡ None
found_nowhere id [] h = refl
found_nowhere id (e ∷ elements) h =
    let parts = or_parts (has_id id e.head) (list_any (λ (e : Listed). has_id id e.head) elements) h in
    cond-false (has_id id e.head) (Some e) (first_of_id id elements) parts.0 ∙ found_nowhere id elements parts.1

-- ---- the root

pub at_the_root : nat_eq (1 + length {A = ℕ} []) 1 ≡ true
at_the_root = refl

pub below_the_root : (place : ℕ) (path : List ℕ) → nat_eq (1 + length (place ∷ path)) 1 ≡ false
below_the_root place path = ne_eqb (1 + length (place ∷ path)) 1 (λ same. omega (arith, same))

pub is_the_root : (path : List ℕ) → nat_eq (1 + length path) 1 ≡ true → path ≡ []
is_the_root [] h = refl
is_the_root (place ∷ path) h = absurd (omega (arith, eqb-true (1 + length (place ∷ path)) 1 h))

pub is_below_the_root : (path : List ℕ) → nat_eq (1 + length path) 1 ≡ false → length path ≡ 0 → ⊥
is_below_the_root path h none = eqb-false (1 + length path) 1 h (omega (arith, none))
