-- How many layouts are made of a tree that is laid out afresh.
use Rattle.std.specs.Prelude.{ℕ, length}
use Rattle.font_metrics.specs.Metrics.{MetricsValue}
use Rattle.math_tree.specs.Trees.{TreeValue}
use Rattle.math_tree.specs.declared.node.Node.TheViews.{out-Node}
use Rattle.layout_model.specs.Layout.{root_context, visits}

-- that of the root, and all that are asked from it down; a layout that is asked for twice is made
-- twice
abbrev pub made_afresh : MetricsValue → TreeValue → ℕ
made_afresh m tree = length (visits m tree.root (root_context m (out-Node tree.root).head))
