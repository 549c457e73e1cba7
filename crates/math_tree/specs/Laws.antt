-- How the elements in a node and their bytes are counted.
use Rattle.std.specs.Prelude.{◌≡◌, ℕ, ◌+◌, ◌<◌, length, slice_get, Some}
use Rattle.std.specs.List.{sum_by}
use Rattle.math_tree.specs.Trees.{element_count, byte_count, bytes_of_head}
use Rattle.math_tree.specs.declared.node.Node.{Node}
use Rattle.math_tree.specs.declared.node.Node.TheViews.{out-Node}

-- the elements in a node are itself and those in its children, and its bytes likewise; so it has
-- fewer children than elements, and each child has fewer elements than it
pub record IsCounted (node : Node) : Type 0 where
  pub elements : element_count node ≡ 1 + sum_by element_count (out-Node node).children
  pub bytes : byte_count node
      ≡ bytes_of_head (out-Node node).head + sum_by byte_count (out-Node node).children
  pub few : length (out-Node node).children < element_count node
  pub below : (index : ℕ) (child : Node) → slice_get (out-Node node).children index ≡ Some child
      → element_count child < element_count node

abbrev pub CountLaw : Type 0
CountLaw = (node : Node) → IsCounted node
