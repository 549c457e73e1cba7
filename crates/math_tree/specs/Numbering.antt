-- Elements whose ids rise by one in document order.
use Rattle.std.specs.Prelude.{ℕ, ◌+◌, List, [], ◌∷◌, length}
use Rattle.std.specs.List.{sum_by}
use Rattle.math_tree.specs.Trees.{TreeValue, node, listed}
use Rattle.math_tree.specs.declared.node.Head.{Head}
use Rattle.math_tree.specs.declared.node.Node.{Node}
use Rattle.math_tree.specs.declared.node.Node.TheFolds.{fold-Node}
use Rattle.math_tree.specs.declared.node.Node.TheOpen.{Node-F}

-- how many elements there are in a part of a tree, and the part where its first id is given
pub record Planted : Type 0 where
  pub size : ℕ
  pub node : ℕ → Node

-- parts that stand side by side: each begins where the one before ends
abbrev pub nodes_from : ℕ → List Planted → List Node
nodes_from id [] = []
nodes_from id (part ∷ parts) = part.node id ∷ nodes_from (id + part.size) parts

-- a head with another id
abbrev pub with_id : ℕ → Head → Head
with_id id head = record head { id = record { 0 = id } }

abbrev pub renumbered_layer : Node-F Planted → Planted
renumbered_layer layer = record {
  size = 1 + sum_by (λ part. part.size) layer.children;
  node = λ id. node (with_id id layer.head) (nodes_from (id + 1) layer.children);
}

-- the same element with all below it, whose ids rise by one in document order from this on
unfoldable pub renumbered : ℕ → Node → Node
renumbered id node = (fold-Node Planted renumbered_layer node).node id

-- the same tree, whose ids are the places in document order from 1
abbrev pub anew : TreeValue → TreeValue
anew tree = record { root = renumbered 1 tree.root; next_id = 1 + length (listed 1 tree.root) }
