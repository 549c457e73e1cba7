-- Induction over a node by its children.
use Rattle.std.proofs.Common.{◌≡◌, ℕ, ◌+◌, List, [], ◌∷◌, ◌++◌, length, map, sym, ap, ◌∙◌, subst}
use Rattle.std.proofs.lemmas.List.{length-map}
use Rattle.std.proofs.lemmas.List.Folds.{flat_map-map}
use Rattle.std.specs.List.{AllByRecursion, flat_map}
use Rattle.math_tree.specs.Trees.{Listed, listed, listed_first}
use Rattle.math_tree.specs.declared.node.Node.{Node}
use Rattle.math_tree.specs.declared.node.Node.TheOpen.{Node-F}
use Rattle.math_tree.specs.declared.node.Node.TheViews.{out-Node, roll-Node, out-roll-Node}
use Rattle.math_tree.specs.declared.node.Node.TheFolds.{ind-Node, fold-Node, fold_out-Node}

all_first : (P : Node → Type 0) (ys : List ((n : Node) × P n)) → AllByRecursion P (map (λ y. y.0) ys)
all_first P [] = tt
all_first P (y ∷ ys) = (y.1, all_first P ys)

-- what holds of a node where it holds of its children holds of every node
pub by_children : (P : Node → Type 0) → ((node : Node) → AllByRecursion P (out-Node node).children → P node) → (node : Node) → P node
by_children P step = ind-Node P (λ x y is.
    let children : (out-Node (roll-Node x)).children ≡ map (λ e. e.0) y.children = ap (λ (l : Node-F Node). l.children) (out-roll-Node x ∙ sym is) in
    step (roll-Node x) (subst (AllByRecursion P) (sym children) (all_first P y.children)))

-- what holds of all of two lists together holds of each
pub all_parts : {X : Type 0} (P : X → Type 0) (xs ys : List X) → AllByRecursion P (xs ++ ys) → AllByRecursion P xs × AllByRecursion P ys
all_parts P [] ys h = (tt, h)
all_parts P (x ∷ xs) ys h = let rest = all_parts P xs ys h.1 in ((h.0, rest.0), rest.1)

-- an element stands before all that is below it
pub listed_element : (level : ℕ) (node : Node)
    → listed level node
    ≡ record { level = level; head = (out-Node node).head; children = length (out-Node node).children } ∷ flat_map (listed (level + 1)) (out-Node node).children
unfolding listed
listed_element level node =
    ap (λ f. f level) (fold_out-Node (ℕ → List Listed) listed_first node)
    ∙ ap (λ n. record { level = level; head = (out-Node node).head; children = n } ∷ flat_map (λ list. list (level + 1)) (map (fold-Node (ℕ → List Listed) listed_first) (out-Node node).children))
    (length-map (out-Node node).children (fold-Node (ℕ → List Listed) listed_first))
    ∙ ap (λ l. record { level = level; head = (out-Node node).head; children = length (out-Node node).children } ∷ l)
    (flat_map-map (λ list. list (level + 1)) (fold-Node (ℕ → List Listed) listed_first) (out-Node node).children)
