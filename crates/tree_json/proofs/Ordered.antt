-- The attributes in what is read stand in order.
use Rattle.std.proofs.Common.{sym, subst, ℕ, ◌+◌, List, [], ◌∷◌, ◌++◌, length}
use Rattle.std.proofs.lemmas.List.{append-nil}
use Rattle.std.specs.List.{flat_map}
use Rattle.math_tree.proofs.Nodes.{all_parts, listed_element}
use Rattle.math_tree.specs.Attributes.{IsInOrder}
use Rattle.tree_json.specs.Parts.{AreOrdered, AreOrderedAt, IsOrderedAt}
use Rattle.math_tree.specs.Trees.{Listed, listed, node}
use Rattle.math_tree.specs.declared.node.Head.{Head}
use Rattle.math_tree.specs.declared.node.Node.{Node}
use Rattle.math_tree.specs.declared.node.Node.TheOpen.{Node-F}
use Rattle.math_tree.specs.declared.node.Node.TheViews.{out-roll-Node, roll-Node}

-- an element over its children
pub with_head : (level : ℕ) (head : Head) (nodes : List Node) → IsInOrder head.attributes → AreOrderedAt (level + 1) nodes
    → IsOrderedAt level (node head nodes)
with_head level head nodes own below =
    let layer : Node-F Node = record { head = head; children = nodes } in
    let P : Node-F Node → Type 0 =
    λ l. AreOrdered (record { level = level; head = l.head; children = length l.children } ∷ flat_map (listed (level + 1)) l.children) in
    subst AreOrdered (sym (listed_element level (roll-Node layer))) (subst P (sym (out-roll-Node layer)) (own, below))

joined : (xs ys : List Listed) → AreOrdered xs → AreOrdered ys → AreOrdered (xs ++ ys)
joined [] ys h more = more
joined (x ∷ xs) ys h more = (h.0, joined xs ys h.1 more)

-- one element more
pub one_more : (level : ℕ) (nodes : List Node) (next : Node) → AreOrderedAt level nodes → IsOrderedAt level next
    → AreOrderedAt level (nodes ++ next ∷ [])
one_more level [] next h more = subst AreOrdered (sym (append-nil (listed level next))) more
one_more level (n ∷ nodes) next h more =
    let parts = all_parts (λ (e : Listed). IsInOrder e.head.attributes) (listed level n) (flat_map (listed level) nodes) h in
    joined (listed level n) (flat_map (listed level) (nodes ++ next ∷ [])) parts.0 (one_more level nodes next parts.1 more)
