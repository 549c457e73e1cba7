-- Ways down a tree, one step at a time.
use Rattle.std.proofs.Common.{◌≡◌, ◌∙◌, sym, ap, refl, subst, ℕ, zero, suc, ◌+◌, ◌-◌, ◌<◌, ◌≤◌, List, [], ◌∷◌, ◌++◌, length, get_or, max, slice_get, take, drop, Bool, true, false, ◌||◌, Option, Some, None, is_some, arith, add-one}
use Rattle.std.proofs.lemmas.List.{take_all}
use Rattle.std.proofs.lemmas.Option.{slice_get_within, none-some, same_Some}
use Rattle.std.specs.List.{AllByRecursion, flat_map, list_any}
use Rattle.std.specs.Option.{option_and_then}
use Rattle.math_tree.specs.Forms.{most_elements, most_levels}
use Rattle.math_tree.specs.Trees.{Listed, element_count, listed}
use Rattle.math_tree.specs.declared.node.Node.{Node}
use Rattle.math_tree.specs.declared.node.Node.TheViews.{size-Node, size_is-Node}
use Rattle.math_tree.proofs.Counts.{counted}
use Rattle.math_tree.proofs.Nodes.{all_parts, listed_element}
use Rattle.tree_edits.specs.Edits.{has_id, head_of}
use Rattle.tree_edits.specs.Paths.{children_of, node_at, Fits, FitsAt, LeadsTo}
use Rattle.tree_edits.specs.declared.change.Change.{Change}
use denote.Param.Weighed.{most, at_most}
use Rattle.std.proofs.lemmas.Option.{get_or_from_slice_get}

-- ---- tests of all elements in a node

or_false : (a b : Bool) → (a || b) ≡ false → (a ≡ false) × (b ≡ false)
or_false false b h = (refl, h)
or_false true b h = (h, cc)

none_join : (test : Listed → Bool) (xs ys : List Listed) → list_any test xs ≡ false → list_any test ys ≡ false → list_any test (xs ++ ys) ≡ false
none_join test [] ys h more = more
none_join test (x ∷ xs) ys h more =
    let both = or_false (test x) (list_any test xs) h in
    rw both.0 (none_join test xs ys both.1 more)

none_split : (test : Listed → Bool) (xs ys : List Listed) → list_any test (xs ++ ys) ≡ false
    → (list_any test xs ≡ false) × (list_any test ys ≡ false)
none_split test [] ys h = (refl, h)
none_split test (x ∷ xs) ys h =
    let both = or_false (test x) (list_any test (xs ++ ys)) h in
    let rest = none_split test xs ys both.1 in
    (rw both.0 rest.0, rest.1)

-- one child more without such an element
pub none_more : (test : Listed → Bool) (list : Node → List Listed) (nodes : List Node) (i : ℕ) (child : Node)
    → slice_get nodes i ≡ Some child → list_any test (flat_map list (take i nodes)) ≡ false → list_any test (list child) ≡ false
    → list_any test (flat_map list (take (i + 1) nodes)) ≡ false
none_more test list [] i child at none missing = absurd (none-some child at)
none_more test list (first ∷ nodes) zero child at none missing =
    let same : list_any test (list first) ≡ false = ap (λ n. list_any test (list n)) (same_Some first child at) ∙ missing in
    none_join test (list first) [] same refl
none_more test list (first ∷ nodes) (suc i) child at none missing =
    let both = none_split test (list first) (flat_map list (take i nodes)) none in
    rw add-one (none_join test (list first) (flat_map list (take (suc i) nodes)) both.0 (rw (← add-one) (none_more test list nodes i child at both.1 missing)))

-- none in an element, where it isn't one itself and none is below it
pub none_in : (test : Listed → Bool) (level : ℕ) (element : Node)
    → test (record { level = level; head = head_of element; children = length (children_of element) }) ≡ false
    → list_any test (flat_map (listed (level + 1)) (children_of element)) ≡ false → list_any test (listed level element) ≡ false
none_in test level element own below = rw (listed_element level element, own) below

-- what holds of all elements in a node holds of those in a child
part_of : (P : Listed → Type 0) (list : Node → List Listed) (nodes : List Node) (i : ℕ) (child : Node)
    → slice_get nodes i ≡ Some child → AllByRecursion P (flat_map list nodes) → AllByRecursion P (list child)
part_of P list [] i child at h = absurd (none-some child at)
part_of P list (first ∷ nodes) zero child at h =
    let parts = all_parts P (list first) (flat_map list nodes) h in
    subst (λ n. AllByRecursion P (list n)) (same_Some first child at) parts.0
part_of P list (first ∷ nodes) (suc i) child at h =
    part_of P list nodes i child at (all_parts P (list first) (flat_map list nodes) h).1

-- the child that is read at a place
pub from_place : (nodes : List Node) (i : ℕ) (child : Node) → i < length nodes → child ≡ get_or nodes i child → slice_get nodes i ≡ Some child
from_place [] i child h e = absurd (omega arith)
from_place (first ∷ nodes) zero child h e = ap Some (sym e)
from_place (first ∷ nodes) (suc i) child h e = from_place nodes i child (omega arith) e

pub in_child : (P : Listed → Type 0) (level : ℕ) (element : Node) (i : ℕ) (child : Node)
    → slice_get (children_of element) i ≡ Some child → AllByRecursion P (listed level element) → AllByRecursion P (listed (level + 1) child)
in_child P level element i child at h =
    part_of P (listed (level + 1)) (children_of element) i child at (subst (AllByRecursion P) (listed_element level element) h).1

-- an element's own level is that of a tree
pub level_within : (level : ℕ) (element : Node) → AllByRecursion (λ e. e.level ≤ most_levels) (listed level element) → level ≤ most_levels
level_within level element h = (subst (AllByRecursion (λ (e : Listed). e.level ≤ most_levels)) (listed_element level element) h).0

-- ---- ways

pub leads_here : (id level : ℕ) (element : Node) → level ≤ most_levels → has_id id (head_of element) ≡ true → LeadsTo id level element []
leads_here id level element within has = record { element = element; at = refl; has = has; short = omega (arith, within) }

pub leads_further : (id level : ℕ) (element : Node) (i : ℕ) (child : Node) (path : List ℕ)
    → slice_get (children_of element) i ≡ Some child → LeadsTo id (level + 1) child path → LeadsTo id level element (i ∷ path)
leads_further id level element i child path at leads = record {
  element = leads.element;
  at = ap (option_and_then (node_at path)) at ∙ leads.at;
  has = leads.has;
  short = omega (arith, leads.short);
}

-- a child is less deep than its node
pub smaller : (element : Node) (i : ℕ) (child : Node) → slice_get (children_of element) i ≡ Some child → size-Node child < size-Node element
smaller element i child h =
    let near : i < length (children_of element) = slice_get_within (children_of element) i child h in
    let deepest : size-Node (get_or (children_of element) i child) ≤ most size-Node (children_of element) = at_most size-Node (children_of element) i child near in
    let whole : size-Node element ≡ max 0 (max (most size-Node (children_of element)) 0) + 1 = size_is-Node element in
    let same : size-Node (get_or (children_of element) i child) ≡ size-Node child = ap size-Node (get_or_from_slice_get (children_of element) i child child h) in
    omega arith

-- in a tree with few enough elements each child has few enough, and its place fits in 16 bits
pub few_below : (element : Node) (i : ℕ) (child : Node) → slice_get (children_of element) i ≡ Some child
    → element_count element ≤ most_elements → element_count child ≤ most_elements
few_below element i child at few = omega (arith, (counted element).below i child at, few)

pub place_fits : (element : Node) (i : ℕ) (child : Node) → slice_get (children_of element) i ≡ Some child
    → element_count element ≤ most_elements → i < 65536
place_fits element i child at few =
    omega (arith, slice_get_within (children_of element) i child at, (counted element).few, few)

-- a way that isn't empty is its first place and the rest
pub split : (path : List ℕ) → (length path ≡ 0 → ⊥) → path ≡ get_or path 0 0 ∷ take (length path - 1) (drop 1 path)
split [] h = absurd (h refl)
split (i ∷ path) h = ap (◌∷◌ i) (sym (take_all (length (i ∷ path) - 1) path (omega arith)))

-- where a change fits at the end of a way, there is a child at its first place, and it fits at the
-- end of the rest from there
pub record FitsBelow (change : Change) (path : List ℕ) (from : Node) : Type 0 where
  pub child : Node
  pub at : slice_get (children_of from) (get_or path 0 0) ≡ Some child
  pub fits : FitsAt change (take (length path - 1) (drop 1 path)) child

below_in : (change : Change) (place : ℕ) (rest : List ℕ) (o : Option Node) (element : Node) → option_and_then (node_at rest) o ≡ Some element
    → Fits change element → (child : Node) × (o ≡ Some child) × FitsAt change rest child
below_in change place rest None element at fits = absurd (none-some element at)
below_in change place rest (Some child) element at fits = (child, refl, record { element = element; at = at; fits = fits })

pub fits_below : (change : Change) (path : List ℕ) (from : Node) → (length path ≡ 0 → ⊥) → FitsAt change path from → FitsBelow change path from
fits_below change path from some fits =
    let first = get_or path 0 0 in
    let rest = take (length path - 1) (drop 1 path) in
    let at = ap (λ p. node_at p from) (sym (split path some)) ∙ fits.at in
    let below = below_in change first rest (slice_get (children_of from) first) fits.element at fits.fits in
    record { child = below.0; at = below.1; fits = below.2 }

-- where a way leads to an element, there is a child at its first place, and the rest leads there
pub record LeadsBelow (path : List ℕ) (from : Node) : Type 0 where
  pub child : Node
  pub at : slice_get (children_of from) (get_or path 0 0) ≡ Some child
  pub rest : node_at path from ≡ node_at (take (length path - 1) (drop 1 path)) child

child_in : (rest : List ℕ) (o : Option Node) → is_some (option_and_then (node_at rest) o) ≡ true → (child : Node) × (o ≡ Some child)
child_in rest None h = cc
child_in rest (Some child) h = (child, refl)

pub leads_below : (path : List ℕ) (from : Node) → (length path ≡ 0 → ⊥) → is_some (node_at path from) ≡ true → LeadsBelow path from
leads_below path from some h =
    let first = get_or path 0 0 in
    let rest = take (length path - 1) (drop 1 path) in
    let same = ap (λ p. node_at p from) (split path some) in
    let found = child_in rest (slice_get (children_of from) first) (ap is_some (sym same) ∙ h) in
    record { child = found.0; at = found.1; rest = same ∙ ap (option_and_then (node_at rest)) found.1 }
