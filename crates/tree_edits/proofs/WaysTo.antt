-- The way to the element of an id, where ids differ, is the one that leads there.
use Rattle.std.proofs.Common.{◌≡◌, ◌∙◌, sym, ap, refl, ℕ, zero, suc, ◌+◌, ◌≤◌, ◌<◌, ◌^◌, List, [], ◌∷◌, ◌++◌, length, map, slice_get, true, cond, Option, Some, None, add-zero, arith}
use Rattle.std.proofs.lemmas.Bool.{cond-true, cond-false}
use Rattle.std.proofs.lemmas.List.{length-append}
use Rattle.std.proofs.lemmas.List.Sums.{sum_by-cons}
use Rattle.std.proofs.lemmas.Option.{none-some, same_Some, slice_get_within}
use Rattle.std.specs.List.{AllByRecursion, sum_by}
use Rattle.std.specs.Option.{option_and_then, option_map}
use Rattle.math_tree.proofs.Counts.{counted}
use Rattle.math_tree.proofs.Nodes.{by_children}
use Rattle.math_tree.specs.Trees.{TreeValue, IsWhole, listed}
use Rattle.math_tree.specs.declared.node.Node.{Node}
use Rattle.math_tree.specs.declared.node.Node.TheFolds.{fold_out-Node}
use Rattle.tree_edits.proofs.Frames.{before_change, down, framed}
use Rattle.tree_edits.proofs.Levels.{length_at}
use Rattle.tree_edits.proofs.OneElement.{has_not, has_one, holds, once, present, times, times_out}
use Rattle.tree_edits.specs.Edits.{has_id, head_of}
use Rattle.tree_edits.specs.Inverses.{Child, child_at, child_of, element_of, first_way, way_from, way_to}
use Rattle.tree_edits.specs.Paths.{children_of, node_at}

way_out : (id : ℕ) (n : Node) → way_to id n ≡ cond (has_id id (head_of n)) (Some []) (first_way 0 (map (way_to id) (children_of n)))
unfolding way_to
way_out id n = fold_out-Node (Option (List ℕ)) (way_from id) n

-- ---- no way to an id that isn't there

abbrev HasNoWay : ℕ → Node → Type 0
HasNoWay id n = times id n ≡ 0 → way_to id n ≡ None

none_first : (id place : ℕ) (nodes : List Node) → AllByRecursion (HasNoWay id) nodes → sum_by (times id) nodes ≡ 0
    → first_way place (map (way_to id) nodes) ≡ None
none_first id place [] h none = refl
none_first id place (n ∷ nodes) h none =
    let cons = sum_by-cons (times id) n nodes in
    ap (λ way. first_way place (way ∷ map (way_to id) nodes)) (h.0 (omega (arith, none, cons)))
    ∙ none_first id (place + 1) nodes h.1 (omega (arith, none, cons))

no_way : (id : ℕ) (n : Node) → HasNoWay id n
no_way id = by_children (HasNoWay id) (λ n h none.
    let out = times_out id n in
    let ways = first_way 0 (map (way_to id) (children_of n)) in
    way_out id n
    ∙ cond-false (has_id id (head_of n)) (Some []) ways (has_not id (head_of n) (omega (arith, none, out)))
    ∙ none_first id 0 (children_of n) h (omega (arith, none, out)))

-- ---- the way

way_of_child : (id place : ℕ) (nodes : List Node) (i : ℕ) (child : Node) (path : List ℕ) → slice_get nodes i ≡ Some child
    → sum_by (times id) nodes ≤ 1 → 1 ≤ times id child → way_to id child ≡ Some path
    → first_way place (map (way_to id) nodes) ≡ Some ((place + i) ∷ path)
way_of_child id place [] i child path at few some is = absurd (none-some child at)
way_of_child id place (n ∷ nodes) zero child path at few some is =
    ap (λ way. first_way place (way ∷ map (way_to id) nodes)) (ap (way_to id) (same_Some n child at) ∙ is)
    ∙ ap (λ p. Some (p ∷ path)) (sym (add-zero place))
way_of_child id place (n ∷ nodes) (suc i) child path at few some is =
    let cons = sum_by-cons (times id) n nodes in
    let within = holds id nodes i child at in
    let next : place + 1 + i ≡ place + suc i = omega arith in
    ap (λ way. first_way place (way ∷ map (way_to id) nodes)) (no_way id n (omega (arith, few, some, cons, within)))
    ∙ way_of_child id (place + 1) nodes i child path at (omega (arith, few, cons)) some is
    ∙ ap (λ p. Some (p ∷ path)) next

way_is : (id : ℕ) (path : List ℕ) (n t : Node) → node_at path n ≡ Some t → has_id id (head_of t) ≡ true → times id n ≤ 1
    → way_to id n ≡ Some path
way_is id [] n t at has few =
    way_out id n
    ∙ cond-true (has_id id (head_of n)) (Some []) (first_way 0 (map (way_to id) (children_of n)))
    (ap (λ m. has_id id (head_of m)) (same_Some n t at) ∙ has)
way_is id (i ∷ path) n t at has few =
    let below = down path (slice_get (children_of n) i) t at in
    let child = below.0 in
    let some = present id path child t below.2 has in
    let within = holds id (children_of n) i child below.1 in
    let out = times_out id n in
    let ways = first_way 0 (map (way_to id) (children_of n)) in
    way_out id n
    ∙ cond-false (has_id id (head_of n)) (Some []) ways (has_not id (head_of n) (omega (arith, few, some, within, out)))
    ∙ way_of_child id 0 (children_of n) i child path below.1 (omega (arith, few, out)) some
    (way_is id path child t below.2 has (omega (arith, few, within, out)))
    ∙ ap (λ p. Some (p ∷ path)) (let none : 0 + i ≡ i = omega arith in none)

one_way : (tree : TreeValue) (id : ℕ) (path : List ℕ) (element : Node) → IsWhole tree → node_at path tree.root ≡ Some element
    → has_id id (head_of element) ≡ true → way_to id tree.root ≡ Some path
one_way tree id path element whole at has = way_is id path tree.root element at has (once id (listed 1 tree.root) whole.distinct)

-- ---- the element and the child at its end

pub element_is : (tree : TreeValue) (id : ℕ) (path : List ℕ) (element : Node) → IsWhole tree → node_at path tree.root ≡ Some element
    → has_id id (head_of element) ≡ true → element_of id tree ≡ Some element
element_is tree id path element whole at has =
    ap (option_and_then (λ way. node_at way tree.root)) (one_way tree id path element whole at has) ∙ at

abbrev pub child_in : Node → ℕ → Node → Child
child_in parent place element = record { over = (head_of parent).id; place = place; element = element }

one_down : (i place : ℕ) (front : List ℕ) (n : Node)
    → child_at (i ∷ (front ++ (place ∷ []))) n ≡ option_and_then (child_at (front ++ (place ∷ []))) (slice_get (children_of n) i)
one_down i place [] n = refl
one_down i place (j ∷ front) n = refl

child_there : (place : ℕ) (front : List ℕ) (n parent element : Node) → node_at front n ≡ Some parent
    → slice_get (children_of parent) place ≡ Some element → child_at (front ++ (place ∷ [])) n ≡ Some (child_in parent place element)
child_there place [] n parent element at there =
    ap (λ m. option_map (child_in m place) (slice_get (children_of m) place)) (same_Some n parent at) ∙ ap (option_map (child_in parent place)) there
child_there place (i ∷ front) n parent element at there =
    let below = down front (slice_get (children_of n) i) parent at in
    one_down i place front n
    ∙ ap (option_and_then (child_at (front ++ (place ∷ [])))) below.1
    ∙ child_there place front below.0 parent element below.2 there

pub child_is : (tree : TreeValue) (id : ℕ) (path front : List ℕ) (place : ℕ) (parent element : Node) → IsWhole tree
    → node_at path tree.root ≡ Some element → has_id id (head_of element) ≡ true → path ≡ front ++ (place ∷ [])
    → node_at front tree.root ≡ Some parent → slice_get (children_of parent) place ≡ Some element
    → child_of id tree ≡ Some (child_in parent place element)
child_is tree id path front place parent element whole at has is over there =
    ap (option_and_then (λ way. child_at way tree.root)) (one_way tree id path element whole at has)
    ∙ ap (λ p. child_at p tree.root) is
    ∙ child_there place front tree.root parent element over there

-- one place more leads to the child there
pub node_at_end : (path : List ℕ) (place : ℕ) (root element child : Node) → node_at path root ≡ Some element → slice_get (children_of element) place ≡ Some child
    → node_at (path ++ (place ∷ [])) root ≡ Some child
node_at_end [] place root element child at there =
    ap (λ n. option_and_then (node_at []) (slice_get (children_of n) place)) (same_Some root element at) ∙ ap (option_and_then (node_at [])) there
node_at_end (i ∷ path) place root element child at there =
    let below = down path (slice_get (children_of root) i) element at in
    ap (option_and_then (node_at (path ++ (place ∷ [])))) below.1 ∙ node_at_end path place below.0 element child below.2 there

-- an element of a whole tree has few children
pub few_children : (tree : TreeValue) (path : List ℕ) (element : Node) → IsWhole tree → node_at path tree.root ≡ Some element
    → length (children_of element) < 65536
few_children tree path element whole at =
    let frame = framed 1 path tree.root element at in
    let here = listed (1 + length path) element in
    let all = ap length (before_change 1 path tree.root element at frame)
    ∙ length-append frame.front (here ++ frame.back) ∙ ap (λ n. length frame.front + n) (length-append here frame.back) in
    let count = (counted element).few in
    omega (arith, all, length_at (1 + length path) element, count, whole.few)
