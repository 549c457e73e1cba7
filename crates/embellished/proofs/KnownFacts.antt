-- What is known of the elements of a tree.
use Rattle.std.proofs.Common.{◌≡◌, ◌∙◌, sym, ap, refl, ℕ, ◌+◌, ◌<◌, List, [], ◌∷◌, ◌++◌, length, map, take, get_or}
use Rattle.std.proofs.lemmas.List.{map-append, take_more}
use Rattle.std.specs.List.{AllByRecursion}
use Rattle.math_tree.specs.declared.node.Node.{Node}
use Rattle.math_tree.specs.declared.node.Node.TheFolds.{fold_out-Node}
use Rattle.math_tree.specs.declared.node.Node.TheViews.{out-Node}
use Rattle.math_tree.proofs.Nodes.{by_children}
use Rattle.embellished.specs.Facts.{facts, facts_over}
use Rattle.embellished.specs.Known.{IsKnown, known_of, known_over, own_facts}
use Rattle.embellished.specs.declared.facts.Facts.{Facts}
use Rattle.embellished.specs.declared.known.Known.{Known}
use Rattle.embellished.specs.declared.known.Known.TheOpen.{Known-F}
use Rattle.embellished.specs.declared.known.Known.TheViews.{out-Known, roll-Known, out-roll-Known}
use Rattle.embellished.proofs.Nodes.{facts_out}

abbrev children : Node → List Node
children node = (out-Node node).children

pub known_out : (node : Node) → known_of node ≡ known_over (out-Node node).head (map known_of (children node))
unfolding known_of
known_out = fold_out-Node Known (λ layer. known_over layer.head layer.children)

own_out : (node : Node) → own_facts (known_of node) ≡ facts_over (out-Node node).head (map own_facts (map known_of (children node)))
own_out node = ap own_facts (known_out node) ∙ ap (λ (l : Known-F Known). l.facts) (out-roll-Known _)

abbrev IsOwn : Node → Type 0
IsOwn node = own_facts (known_of node) ≡ facts node

all_own : (nodes : List Node) → AllByRecursion IsOwn nodes → map own_facts (map known_of nodes) ≡ map facts nodes
all_own [] h = refl
all_own (node ∷ nodes) h =
    ap (λ f. f ∷ map own_facts (map known_of nodes)) h.0 ∙ ap (λ rest. facts node ∷ rest) (all_own nodes h.1)

pub own_are : (node : Node) → IsOwn node
own_are = by_children IsOwn (λ node h.
    own_out node ∙ ap (facts_over (out-Node node).head) (all_own (children node) h) ∙ sym (facts_out node))

each_own : (nodes : List Node) → AllByRecursion IsOwn nodes
each_own [] = tt
each_own (node ∷ nodes) = (own_are node, each_own nodes)

pub kids_are : (nodes : List Node) → map own_facts (map known_of nodes) ≡ map facts nodes
kids_are nodes = all_own nodes (each_own nodes)

pub is_known : (node : Node) → IsKnown node (known_of node)
is_known node = record {
  facts_are = own_are node;
  kids_are = ap (λ k. (out-Known k).kids) (known_out node) ∙ ap (λ (l : Known-F Known). l.kids) (out-roll-Known _) ∙ kids_are (children node);
  below_are = ap (λ k. (out-Known k).below) (known_out node) ∙ ap (λ (l : Known-F Known). l.below) (out-roll-Known _);
}

-- what is made of the parts
pub known_made : (node : Node) (own : Facts) (kids : List Facts) (below : List Known)
    → below ≡ map known_of (children node) → kids ≡ map facts (children node)
    → own ≡ facts_over (out-Node node).head kids
    → roll-Known record { facts = own; kids = kids; below = below } ≡ known_of node
known_made node own kids below b k o =
    let same : kids ≡ map own_facts below = k ∙ sym (kids_are (children node)) ∙ ap (map own_facts) (sym b) in
    ap (λ f. roll-Known record { facts = f; kids = kids; below = below }) (o ∙ ap (facts_over (out-Node node).head) same)
    ∙ ap (λ ks. roll-Known record { facts = facts_over (out-Node node).head (map own_facts below); kids = ks; below = below }) same
    ∙ ap (known_over (out-Node node).head) b ∙ sym (known_out node)

-- one child more
pub map_more : {A : Type 0} (f : Node → A) (made : List A) (nodes : List Node) (i : ℕ) (node : Node) (x : A)
    → made ≡ map f (take i nodes) → i < length nodes → node ≡ get_or nodes i node → x ≡ f node
    → made ++ x ∷ [] ≡ map f (take (i + 1) nodes)
map_more f made nodes i node x before within is e =
    ap (λ m. m ++ x ∷ []) before ∙ ap (λ y. map f (take i nodes) ++ y ∷ []) e
    ∙ sym (map-append f (take i nodes) (node ∷ []))
    ∙ ap (map f) (sym (take_more nodes i node within ∙ ap (λ k. take i nodes ++ k ∷ []) (sym is)))
