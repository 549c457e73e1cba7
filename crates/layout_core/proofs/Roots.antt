-- The layout of a tree is that of its root in the root's context.
use Rattle.std.proofs.Common.{◌≡◌, ◌∙◌, ap, length}
use Rattle.font_metrics.specs.Metrics.{MetricsValue}
use Rattle.math_tree.specs.Trees.{TreeValue}
use Rattle.math_tree.specs.declared.node.Node.{Node}
use Rattle.math_tree.specs.declared.node.Node.TheViews.{out-Node}
use Rattle.layout_model.specs.Layout.{in_range, is_tree_in_range, laid, laid_tree, root_context, visits}
use Rattle.layout_model.specs.declared.context.Context.{Context}
use Rattle.layout_core.specs.Made.{made_afresh}

module _ (m : MetricsValue) (tree : TreeValue) (root : Node) (context : Context) (r : root ≡ tree.root) (c : context ≡ root_context m (out-Node root).head) where
  pub tree_laid : laid m root context ≡ laid_tree m tree
  tree_laid = ap (laid m root) c ∙ ap (λ (n : Node). laid m n (root_context m (out-Node n).head)) r

  pub tree_made : length (visits m root context) ≡ made_afresh m tree
  tree_made = ap (λ (x : Context). length (visits m root x)) c ∙ ap (λ (n : Node). length (visits m n (root_context m (out-Node n).head))) r

  pub tree_ranged : in_range m root context ≡ is_tree_in_range m tree
  tree_ranged = ap (in_range m root) c ∙ ap (λ (n : Node). in_range m n (root_context m (out-Node n).head)) r
