-- Elements by their ids, in place of where they stand.
use Rattle.std.specs.Prelude.{◌≡◌, ℕ, true, List, Some}
use Rattle.font_metrics.specs.Metrics.{MetricsValue}
use Rattle.math_tree.specs.Trees.{IsWhole, TreeValue}
use Rattle.math_tree.specs.declared.node.Node.{Node}
use Rattle.tree_edits.specs.Edits.{has_id, head_of}
use Rattle.tree_edits.specs.Paths.{node_at}
use Rattle.layout_model.specs.declared.context.Context.{Context}
use Rattle.kept_results.specs.Passes.{Needs, Pair}

-- an element that a layout needs, by its id
pub record HasIdAt (node : Node) (pair : Pair) (id : ℕ) : Type 0 where
  pub element : Node
  pub at : node_at pair.path node ≡ Some element
  pub has : has_id id (head_of element) ≡ true

-- in a whole tree ways to one id are one way
abbrev pub OneWayLaw : Type 0
OneWayLaw = (tree : TreeValue) (a b : List ℕ) (x y : Node) (id : ℕ) → IsWhole tree →
    node_at a tree.root ≡ Some x → has_id id (head_of x) ≡ true →
    node_at b tree.root ≡ Some y → has_id id (head_of y) ≡ true → a ≡ b

-- and so two layouts of one id in one context are one: a list of places and contexts without
-- repeats is one of ids and contexts without repeats. Each layout that is needed is of an element
-- of the tree
pub record NamesApart (tree : TreeValue) (p q : Pair) : Type 0 where
  pub same : (id : ℕ) → HasIdAt tree.root p id → HasIdAt tree.root q id → p.context ≡ q.context →
      p ≡ q

abbrev pub IdsLaw : Type 0
IdsLaw =
    (m : MetricsValue) (tree : TreeValue) (context : Context) (p : Pair) → IsWhole tree →
    Needs m tree.root context p →
    ((id : ℕ) × HasIdAt tree.root p id) × ((q : Pair) → NamesApart tree p q)
