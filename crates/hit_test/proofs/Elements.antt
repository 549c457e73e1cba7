-- The tree of the elements in flow, and all elements of a tree, a layer at a time.
use Rattle.std.proofs.Common.{◌≡◌, ◌∙◌, refl, sym, ap, ℕ, ◌+◌, Bool, true, false, ◌||◌, ◌&&◌, List, [], ◌∷◌, ◌++◌, map}
use Rattle.std.specs.List.{AllByRecursion, flat_map, list_any}
use Rattle.std.proofs.lemmas.List.Folds.{list_any-append}
use Rattle.math_tree.proofs.Nodes.{by_children}
use Rattle.math_tree.specs.Trees.{node}
use Rattle.math_tree.specs.declared.node.Head.{Head}
use Rattle.math_tree.specs.declared.node.Node.{Node}
use Rattle.math_tree.specs.declared.node.Node.TheFolds.{fold-Node, fold_out-Node}
use Rattle.math_tree.specs.declared.node.Node.TheOpen.{Node-F}
use Rattle.math_tree.specs.declared.node.Node.TheViews.{out-Node, out-roll-Node, roll-Node, roll-out-Node}
use Rattle.embellished.specs.Facts.{facts, facts_over}
use Rattle.embellished.specs.Flow.{flow_by}
use Rattle.embellished.specs.Seen.{Child, children_from, flow_children, flow_nodes, laid_child}
use Rattle.embellished.specs.declared.facts.Facts.{Facts}
use Rattle.embellished.proofs.InFlow.{flow_map}
use Rattle.embellished.proofs.Nodes.{facts_out}
use Rattle.hit_test.specs.Elements.{Flowing, Listing, children_of, elements_of, flow_tree, flowing, flowing_over, has_id, holds_id, id_of, is_inside, laid_flowing, listing_over}

-- ---- the tree of the elements in flow

flowing_out : (n : Node) → flowing n ≡ flowing_over record { head = (out-Node n).head; children = map flowing (out-Node n).children }
unfolding flowing
flowing_out = fold_out-Node Flowing flowing_over

-- it knows of each element what it is
abbrev KnowsFacts : Node → Type 0
KnowsFacts n = (flowing n).facts ≡ facts n

all_facts : (nodes : List Node) → AllByRecursion KnowsFacts nodes → map (λ (k : Flowing). k.facts) (map flowing nodes) ≡ map facts nodes
all_facts [] h = refl
all_facts (n ∷ nodes) h = ap (λ f. f ∷ map (λ (k : Flowing). k.facts) (map flowing nodes)) h.0 ∙ ap (λ l. facts n ∷ l) (all_facts nodes h.1)

knows_facts : (n : Node) → KnowsFacts n
knows_facts = by_children KnowsFacts (λ n h.
    ap (λ (f : Flowing). f.facts) (flowing_out n) ∙ ap (facts_over (out-Node n).head) (all_facts (out-Node n).children h) ∙ sym (facts_out n))

each_knows : (nodes : List Node) → AllByRecursion KnowsFacts nodes
each_knows [] = tt
each_knows (n ∷ nodes) = (knows_facts n, each_knows nodes)

places_away : (place : ℕ) (nodes : List Node) → map (λ (c : Child). c.node) (children_from place nodes) ≡ nodes
places_away place [] = refl
places_away place (n ∷ nodes) = ap (λ l. n ∷ l) (places_away (place + 1) nodes)

-- the children in flow, without their places
pub flow_is : (n : Node) → flow_nodes n ≡ flow_by (λ k. (facts k).laid) (facts n).laid (out-Node n).children
unfolding flow_children
flow_is n =
    flow_map (λ (c : Child). c.node) (λ k. (facts k).laid) (facts n).laid (children_from 0 (out-Node n).children)
    ∙ ap (flow_by (λ k. (facts k).laid) (facts n).laid) (places_away 0 (out-Node n).children)

flow_kids : (n : Node) → flow_by laid_flowing (facts n).laid (map flowing (out-Node n).children) ≡ map flowing (flow_nodes n)
flow_kids n =
    sym (flow_map flowing laid_flowing (facts n).laid (out-Node n).children)
    ∙ (λ i. map flowing (flow_by (λ k. (knows_facts k i).laid) (facts n).laid (out-Node n).children))
    ∙ ap (map flowing) (sym (flow_is n))

elements_away : (nodes : List Node) → map (λ (k : Flowing). k.element) (map flowing nodes) ≡ map flow_tree nodes
elements_away [] = refl
elements_away (n ∷ nodes) = ap (λ l. flow_tree n ∷ l) (elements_away nodes)

-- an element over its children in flow
pub flow_out : (n : Node) → flow_tree n ≡ node (out-Node n).head (map flow_tree (flow_nodes n))
flow_out n =
    let all = map flowing (out-Node n).children in
    let own : facts_over (out-Node n).head (map (λ (k : Flowing). k.facts) all) ≡ facts n =
    ap (facts_over (out-Node n).head) (all_facts (out-Node n).children (each_knows (out-Node n).children)) ∙ sym (facts_out n) in
    ap (λ (f : Flowing). f.element) (flowing_out n)
    ∙ ap (λ (f : Facts). node (out-Node n).head (map (λ (k : Flowing). k.element) (flow_by laid_flowing f.laid all))) own
    ∙ ap (λ kids. node (out-Node n).head (map (λ (k : Flowing). k.element) kids)) (flow_kids n)
    ∙ ap (node (out-Node n).head) (elements_away (flow_nodes n))

pub flow_children_are : (n : Node) → children_of (flow_tree n) ≡ map flow_tree (flow_nodes n)
flow_children_are n = ap children_of (flow_out n) ∙ ap (λ (l : Node-F Node). l.children) (out-roll-Node _)

pub flow_head : (n : Node) → (out-Node (flow_tree n)).head ≡ (out-Node n).head
flow_head n = ap (λ t. (out-Node t).head) (flow_out n) ∙ ap (λ (l : Node-F Node). l.head) (out-roll-Node _)

-- ---- all elements of a tree

abbrev listing : Node → Listing
listing root = fold-Node Listing listing_over root

listing_out : (n : Node) → listing n ≡ listing_over record { head = (out-Node n).head; children = map listing (out-Node n).children }
listing_out = fold_out-Node Listing listing_over

abbrev IsItself : Node → Type 0
IsItself n = (listing n).element ≡ n

all_themselves : (nodes : List Node) → AllByRecursion IsItself nodes → map (λ (k : Listing). k.element) (map listing nodes) ≡ nodes
all_themselves [] h = refl
all_themselves (n ∷ nodes) h = ap (λ x. x ∷ map (λ (k : Listing). k.element) (map listing nodes)) h.0 ∙ ap (λ l. n ∷ l) (all_themselves nodes h.1)

itself : (n : Node) → IsItself n
itself = by_children IsItself (λ n h.
    ap (λ (l : Listing). l.element) (listing_out n) ∙ ap (node (out-Node n).head) (all_themselves (out-Node n).children h) ∙ roll-out-Node n)

lists_away : (nodes : List Node) → flat_map (λ (k : Listing). k.all) (map listing nodes) ≡ flat_map elements_of nodes
unfolding elements_of
lists_away [] = refl
lists_away (n ∷ nodes) = ap (λ l. elements_of n ++ l) (lists_away nodes)

-- an element stands before all that are inside it
pub elements_out : (n : Node) → elements_of n ≡ n ∷ flat_map elements_of (children_of n)
unfolding elements_of
elements_out n =
    ap (λ (l : Listing). l.all) (listing_out n)
    ∙ ap (λ x. x ∷ flat_map (λ (k : Listing). k.all) (map listing (out-Node n).children))
    (sym (ap (λ (l : Listing). l.element) (listing_out n)) ∙ itself n)
    ∙ ap (λ l. n ∷ l) (lists_away (children_of n))

any_flat : {A B : Type 0} (test : B → Bool) (f : A → List B) (xs : List A) → list_any test (flat_map f xs) ≡ list_any (λ x. list_any test (f x)) xs
any_flat test f [] = refl
any_flat test f (x ∷ xs) = list_any-append test (f x) (flat_map f xs) ∙ ap (λ (b : Bool). list_any test (f x) || b) (any_flat test f xs)

-- it is the element, or is inside it
pub holds_out : (id : ℕ) (n : Node) → holds_id id n ≡ (has_id id n || is_inside id n)
unfolding holds_id
holds_out id n =
    ap (list_any (has_id id)) (elements_out n)
    ∙ ap (λ (b : Bool). has_id id n || b) (any_flat (has_id id) elements_of (children_of n))
