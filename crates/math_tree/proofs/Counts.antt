-- How many elements there are in a node, and how many bytes they hold.
use Rattle.std.proofs.Common.{◌≡◌, ◌∙◌, refl, sym, ap, ℕ, zero, suc, ◌+◌, ◌≤◌, List, [], ◌∷◌, length, slice_get, Some, arith}
use Rattle.std.proofs.lemmas.List.Sums.{sum_by-cons, sum_by-append}
use Rattle.std.proofs.lemmas.Option.{none-some, same_Some}
use Rattle.std.specs.List.{AllByRecursion, flat_map, sum_by}
use Rattle.math_tree.specs.Laws.{CountLaw}
use Rattle.math_tree.specs.Trees.{Listed, listed, element_count, bytes_of_head}
use Rattle.math_tree.specs.declared.node.Head.{Head}
use Rattle.math_tree.specs.declared.node.Node.{Node}
use Rattle.math_tree.specs.declared.node.Node.TheViews.{out-Node}
use Rattle.math_tree.proofs.Nodes.{by_children, listed_element}

-- ---- a total over the elements in a node of what each has by itself

module _ (own : Head → ℕ) where
  abbrev total_at : ℕ → Node → ℕ
  total_at level node = sum_by (λ e. own e.head) (listed level node)

  abbrev IsLevel : Node → Type 0
  IsLevel node = (level : ℕ) → total_at level node ≡ total_at 1 node

  side_totals : (nodes : List Node) → AllByRecursion IsLevel nodes → (level : ℕ)
      → sum_by (λ e. own e.head) (flat_map (listed level) nodes) ≡ sum_by (total_at 1) nodes
  side_totals [] h level = refl
  side_totals (node ∷ nodes) h level =
      let append = sum_by-append (λ (e : Listed). own e.head) (listed level node) (flat_map (listed level) nodes) in
      let cons = sum_by-cons (total_at 1) node nodes in
      omega (arith, append, cons, h.0 level, side_totals nodes h.1 level)

  from_children : (node : Node) → AllByRecursion IsLevel (out-Node node).children → (level : ℕ)
      → total_at level node ≡ own (out-Node node).head + sum_by (total_at 1) (out-Node node).children
  from_children node h level =
      let element : Listed = record { level = level; head = (out-Node node).head; children = length (out-Node node).children } in
      let below = flat_map (listed (level + 1)) (out-Node node).children in
      ap (sum_by (λ e. own e.head)) (listed_element level node)
      ∙ sum_by-cons (λ (e : Listed). own e.head) element below
      ∙ ap (λ n. own (out-Node node).head + n) (side_totals (out-Node node).children h (level + 1))

  -- the level changes nothing
  same_total : (node : Node) → IsLevel node
  same_total = by_children IsLevel (λ node h level. from_children node h level ∙ sym (from_children node h 1))

  all_same : (nodes : List Node) → AllByRecursion IsLevel nodes
  all_same [] = tt
  all_same (node ∷ nodes) = (same_total node, all_same nodes)

  pub total_is : (node : Node) → total_at 1 node ≡ own (out-Node node).head + sum_by (total_at 1) (out-Node node).children
  total_is node = from_children node (all_same (out-Node node).children) 1

-- ---- elements

length_is : (elements : List Listed) → length elements ≡ sum_by (λ e. 1) elements
length_is [] = refl
length_is (e ∷ elements) = omega (arith, sum_by-cons (λ (e : Listed). 1) e elements, length_is elements)

counts_are : (nodes : List Node) → sum_by element_count nodes ≡ sum_by (λ node. sum_by (λ e. 1) (listed 1 node)) nodes
counts_are [] = refl
counts_are (node ∷ nodes) =
    let count = sum_by-cons element_count node nodes in
    let total = sum_by-cons (λ node. sum_by (λ e. 1) (listed 1 node)) node nodes in
    omega (arith, count, total, length_is (listed 1 node), counts_are nodes)

pub elements_are : (node : Node) → element_count node ≡ 1 + sum_by element_count (out-Node node).children
elements_are node =
    length_is (listed 1 node) ∙ total_is (λ head. 1) node ∙ ap (λ n. 1 + n) (sym (counts_are (out-Node node).children))

-- each child is at least one
pub as_many : (nodes : List Node) → length nodes ≤ sum_by element_count nodes
as_many [] = omega arith
as_many (node ∷ nodes) = omega (arith, sum_by-cons element_count node nodes, elements_are node, as_many nodes)

pub one_of : (nodes : List Node) (index : ℕ) (child : Node) → slice_get nodes index ≡ Some child
    → element_count child ≤ sum_by element_count nodes
one_of [] index child e = absurd (none-some child e)
one_of (node ∷ nodes) zero child e =
    let same = ap element_count (same_Some node child e) in
    omega (arith, sum_by-cons element_count node nodes, same)
one_of (node ∷ nodes) (suc index) child e = omega (arith, sum_by-cons element_count node nodes, one_of nodes index child e)

pub counted : CountLaw
counted node =
    let children = (out-Node node).children in
    let elements = elements_are node in
    record {
      elements = elements;
      bytes = total_is bytes_of_head node;
      few = omega (arith, elements, as_many children);
      below = λ index child at. omega (arith, elements, one_of children index child at);
    }
