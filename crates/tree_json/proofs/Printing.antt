-- The values that are printed, part by part.
use Rattle.std.proofs.Common.{◌≡◌, ℕ, ◌+◌, ◌*◌, ◌<◌, ◌≤◌, max, false, ◌||◌, codes, arith, List, [], ◌∷◌, ◌++◌, length, map, take, drop, get_or, refl, sym, ap, subst, ◌∙◌, Less, Greater, nat_cmp}
use Rattle.std.proofs.lemmas.Cmp.{nat_list_cmp_total}
use Rattle.std.proofs.lemmas.List.Concat.{flat_map-cons}
use Rattle.std.proofs.lemmas.List.{take-append-drop, take_more, drop_more}
use Rattle.std.specs.Cmp.Lexicographic.{slice_cmp}
use Rattle.std.specs.List.{AllByRecursion, flat_map}
use Rattle.std.specs.List.Sorted.{IsStrictlySortedBy}
use Rattle.std.specs.Ordering.{ordering_reverse}
use Rattle.serde_json.specs.Data.{Data, string, array, object, Members, no_members, member, put, depth, items_depth, members_depth}
use Rattle.serde_json.specs.Written.{has_float, items_have_float, members_have_float}
use Rattle.math_tree.specs.Attributes.{names_of, IsInOrder}
use Rattle.tree_json.specs.Print.{members_of, items_of, member_if_any, object_of, value_of}
use Rattle.math_tree.specs.Trees.{listed}
use Rattle.math_tree.specs.declared.attributes.Attribute.{Attribute}
use Rattle.math_tree.specs.declared.node.Head.{Head}
use Rattle.math_tree.specs.declared.node.Node.{Node}
use Rattle.math_tree.specs.declared.node.Node.TheViews.{out-Node}
use Rattle.math_tree.specs.declared.node.Node.TheFolds.{fold_out-Node}
use Rattle.math_tree.proofs.Nodes.{by_children, all_parts, listed_element}

-- the value of an element is made of those of its children
pub value_of_element : (node : Node) → value_of node ≡ object_of (out-Node node).head (map value_of (out-Node node).children)
unfolding value_of
value_of_element node = fold_out-Node _ _ node

below : (first : Attribute) (done : List Attribute) (a : Attribute) (more : List Attribute)
    → AllByRecursion (λ y. slice_cmp nat_cmp first.name y ≡ Less) (names_of (done ++ a ∷ more)) → slice_cmp nat_cmp first.name a.name ≡ Less
below first [] a more h = h.0
below first (x ∷ done) a more h = below first done a more h.1

-- an attribute whose name comes after those before it goes last
pub put_last : (done : List Attribute) (a : Attribute) (more : List Attribute) → IsInOrder (done ++ a ∷ more)
    → put a.name (string a.value) (members_of done) ≡ members_of (done ++ a ∷ [])
unfolding IsStrictlySortedBy
put_last [] a more h = refl
put_last (first ∷ done) a more h =
    let above : slice_cmp nat_cmp a.name first.name ≡ Greater =
    nat_list_cmp_total.antisymm a.name first.name ∙ ap ordering_reverse (below first done a more h.0) in
    rw above (ap (member first.name (string first.value)) (put_last done a more h.1))

-- the members of one attribute more
pub next_member : (xs : List Attribute) (i : ℕ) (a : Attribute) → i < length xs → a ≡ get_or xs i a → IsInOrder xs
    → put a.name (string a.value) (members_of (take i xs)) ≡ members_of (take (i + 1) xs)
next_member xs i a within is order =
    let whole : take i xs ++ a ∷ drop (i + 1) xs ≡ xs =
    ap (λ x. take i xs ++ x ∷ drop (i + 1) xs) is ∙ ap (λ l. take i xs ++ l) (sym (drop_more xs i a within)) ∙ take-append-drop i xs in
    put_last (take i xs) a (drop (i + 1) xs) (subst IsInOrder (sym whole) order)
    ∙ ap members_of (ap (λ x. take i xs ++ x ∷ []) is ∙ sym (take_more xs i a within))

-- ---- no number is printed

no_float_in_members : (attributes : List Attribute) → members_have_float (members_of attributes) ≡ false
no_float_in_members [] = refl
no_float_in_members (a ∷ attributes) = no_float_in_members attributes

no_float_in_items : (nodes : List Node) → AllByRecursion (λ n. has_float (value_of n) ≡ false) nodes → items_have_float (items_of (map value_of nodes)) ≡ false
no_float_in_items [] h = refl
no_float_in_items (n ∷ nodes) h = ap (λ b. b || items_have_float (items_of (map value_of nodes))) h.0 ∙ no_float_in_items nodes h.1

no_float_if_any : {A : Type 0} (xs : List A) (key : List ℕ) (value : Data) (rest : Members) → has_float value ≡ false → members_have_float rest ≡ false
    → members_have_float (member_if_any xs key value rest) ≡ false
no_float_if_any [] key value rest h k = k
no_float_if_any (x ∷ xs) key value rest h k = ap (λ b. b || members_have_float rest) h ∙ k

no_float_here : (head : Head) (values : List Data) → items_have_float (items_of values) ≡ false → has_float (object_of head values) ≡ false
no_float_here head values h =
    no_float_if_any head.attributes _ _ _ (no_float_in_members head.attributes)
    (no_float_if_any values _ _ _ h (no_float_if_any head.text _ _ _ refl refl))

pub no_float : (node : Node) → has_float (value_of node) ≡ false
no_float = by_children _ (λ node h.
    ap has_float (value_of_element node) ∙ no_float_here (out-Node node).head (map value_of (out-Node node).children) (no_float_in_items (out-Node node).children h))

-- ---- how deep a value nests

depth_of_members : (attributes : List Attribute) → members_depth (members_of attributes) ≡ 0
depth_of_members [] = refl
depth_of_members (a ∷ attributes) = let rest = depth_of_members attributes in omega (arith, rest)

depth_if_any : {A : Type 0} (xs : List A) (key : List ℕ) (value : Data) (rest : Members)
    → members_depth (member_if_any xs key value rest) ≤ max (depth value) (members_depth rest)
depth_if_any [] key value rest = omega arith
depth_if_any (x ∷ xs) key value rest = omega arith

-- an object and the array in it are two levels above the children
depth_here : (head : Head) (values : List Data) → depth (object_of head values) ≤ 2 + items_depth (items_of values)
depth_here head values =
    let text = member_if_any head.text (codes "text") (string head.text) no_members in
    let named = member (codes "name") (string head.name) text in
    let over = member_if_any values (codes "children") (array (items_of values)) named in
    let none = depth_of_members head.attributes in
    let one = depth_if_any head.attributes (codes "attributes") (object (members_of head.attributes)) over in
    let two = depth_if_any values (codes "children") (array (items_of values)) named in
    let three = depth_if_any head.text (codes "text") (string head.text) no_members in
    omega (arith, none, one, two, three)

items_within : (most : ℕ) (level : ℕ) (nodes : List Node)
    → AllByRecursion (λ n. (level : ℕ) → AllByRecursion (λ e. e.level ≤ most) (listed level n) → depth (value_of n) + 2 * level ≤ 2 * most + 2) nodes
    → level ≤ most
    → AllByRecursion (λ e. e.level ≤ most) (flat_map (listed (level + 1)) nodes)
    → items_depth (items_of (map value_of nodes)) + 2 * level ≤ 2 * most
items_within most level [] h low all = omega arith
items_within most level (n ∷ nodes) h low all =
    let parts = all_parts (λ e. e.level ≤ most) (listed (level + 1) n) (flat_map (listed (level + 1)) nodes)
    (subst (AllByRecursion (λ e. e.level ≤ most)) (flat_map-cons (listed (level + 1)) n nodes) all) in
    let one = h.0 (level + 1) parts.0 in
    let rest = items_within most level nodes h.1 low parts.1 in
    omega (arith, one, rest)

-- each level of a tree is two of its value at most
pub depth_within : (most : ℕ) (node : Node) (level : ℕ) → AllByRecursion (λ e. e.level ≤ most) (listed level node)
    → depth (value_of node) + 2 * level ≤ 2 * most + 2
depth_within most = by_children (λ n. (level : ℕ) → AllByRecursion (λ e. e.level ≤ most) (listed level n) → depth (value_of n) + 2 * level ≤ 2 * most + 2)
    (λ node h level all.
    let here = subst (AllByRecursion (λ e. e.level ≤ most)) (listed_element level node) all in
    let items = items_within most level (out-Node node).children h here.0 here.1 in
    let own = depth_here (out-Node node).head (map value_of (out-Node node).children) in
    let is : depth (value_of node) ≡ depth (object_of (out-Node node).head (map value_of (out-Node node).children)) = ap depth (value_of_element node) in
    omega (arith, items, own, is))
