-- A child in flow among all children: where it stands, what is known of it, and that it is smaller.
use Rattle.std.proofs.Common.{◌≡◌, ◌∙◌, sym, ap, subst, ℕ, ◌+◌, ◌<◌, ◌≤◌, max, arith, List, length, map, get_or, Some, slice_get}
use Rattle.std.proofs.lemmas.List.{get_or-map, length-map}
use Rattle.std.proofs.lemmas.Option.{get_or_from_slice_get, same_Some, slice_get-map, slice_get_within}
use Rattle.std.specs.Option.{option_map}
use denote.Param.Weighed.{most, at_most}
use Rattle.math_tree.specs.Trees.{element_count}
use Rattle.math_tree.specs.declared.node.Node.{Node}
use Rattle.math_tree.specs.declared.node.Node.TheViews.{out-Node, size-Node, size_is-Node}
use Rattle.math_tree.proofs.Counts.{as_many, elements_are, one_of}
use Rattle.embellished.specs.Facts.{facts}
use Rattle.embellished.specs.Known.{known_of}
use Rattle.embellished.specs.Seen.{Child, HasChild, flow_children, flow_nodes, kid_of, laid_kid, seen_of}
use Rattle.embellished.specs.declared.known.Known.{Known}
use Rattle.embellished.specs.declared.known.Known.TheViews.{out-Known}
use Rattle.embellished.proofs.InFlow.{flow_length, kids_are_nodes}
use Rattle.embellished.proofs.KnownFacts.{is_known}
use Rattle.hit_test.specs.Elements.{children_of, flow_tree}
use Rattle.hit_test.proofs.Elements.{flow_children_are}

abbrev children : Node → List Node
children node = (out-Node node).children

-- there are as many nodes in flow as a view shows
pub as_many_nodes : (node : Node) → length (flow_nodes node) ≡ length (seen_of node).kids
as_many_nodes node = sym (length-map (flow_nodes node) kid_of) ∙ sym (ap length (kids_are_nodes node))

-- and in the tree of the elements in flow
pub as_many_below : (node : Node) → length (children_of (flow_tree node)) ≡ length (seen_of node).kids
as_many_below node = ap length (flow_children_are node) ∙ length-map (flow_nodes node) flow_tree ∙ as_many_nodes node

-- no more are in flow than there are
pub few_in_flow : (node : Node) → length (seen_of node).kids ≤ length (children node)
unfolding seen_of
few_in_flow node = omega (arith, flow_length laid_kid (facts node).laid (map kid_of (children node)), length-map (children node) kid_of)

pub few_children : (node : Node) → length (children node) < element_count node
few_children node = omega (arith, elements_are node, as_many (children node))

-- what is known of an element's children stands at their places
pub known_below : (node : Node) (known : Known) → known ≡ known_of node → (out-Known known).below ≡ map known_of (children node)
known_below node known e = ap (λ (k : Known). (out-Known k).below) e ∙ (is_known node).below_are

pub child_of : (shown node : Node) (index : ℕ) (P : Child → Type 0) → shown ≡ node → HasChild shown index P → HasChild node index P
child_of shown node index P e h = subst (λ (n : Node). HasChild n index P) e h

module _ (node kid : Node) (index place : ℕ) (n : HasChild node index (λ child. child.node ≡ kid)) (p : HasChild node index (λ child. child.place ≡ place)) where
  same_child : n.child ≡ p.child
  same_child = same_Some n.child p.child (sym n.in_flow ∙ p.in_flow)

  pub in_flow : slice_get (flow_nodes node) index ≡ Some kid
  in_flow =
      slice_get-map (λ (child : Child). child.node) (flow_children node) index
      ∙ ap (option_map (λ (child : Child). child.node)) n.in_flow ∙ ap (λ (k : Node). Some k) n.holds

  pub among_all : slice_get (children node) place ≡ Some kid
  among_all =
      let at : n.child.place ≡ place = ap (λ (c : Child). c.place) same_child ∙ p.holds in
      ap (slice_get (children node)) (sym at) ∙ n.among ∙ ap (λ (k : Node). Some k) n.holds

  pub near : place < length (children node)
  near = slice_get_within (children node) place kid among_all

  pub one : kid ≡ get_or (children node) place kid
  one = sym (get_or_from_slice_get (children node) place kid kid among_all)

  pub known_at : (below : List Known) (known : Known) → below ≡ map known_of (children node) → known ≡ get_or below place known → known ≡ known_of kid
  known_at below known e is =
      is ∙ ap (λ (list : List Known). get_or list place known) e ∙ get_or-map known_of (children node) place kid known near ∙ ap known_of (sym one)

  pub few_below : element_count kid ≤ element_count node
  few_below = omega (arith, elements_are node, one_of (children node) place kid among_all)

  -- the tree of the elements in flow has it at the same place
  pub in_tree : (d : Node) → get_or (children_of (flow_tree node)) index d ≡ flow_tree kid
  in_tree d =
      ap (λ list. get_or list index d) (flow_children_are node)
      ∙ get_or_from_slice_get (map flow_tree (flow_nodes node)) index (flow_tree kid) d
      (slice_get-map flow_tree (flow_nodes node) index ∙ ap (option_map flow_tree) in_flow)

  pub smaller : size-Node kid < size-Node node
  smaller =
      let deepest : size-Node (get_or (children node) place kid) ≤ most size-Node (children node) = at_most size-Node (children node) place kid near in
      let whole : size-Node node ≡ max 0 (max (most size-Node (children node)) 0) + 1 = size_is-Node node in
      let same : size-Node kid ≡ size-Node (get_or (children node) place kid) = ap size-Node one in
      omega arith
