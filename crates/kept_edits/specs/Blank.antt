-- The memo of a tree that was never laid out.
use Rattle.std.specs.Prelude.{List, [], map, None}
use Rattle.math_tree.specs.declared.node.Head.{Head}
use Rattle.math_tree.specs.declared.node.Node.{Node}
use Rattle.math_tree.specs.declared.node.Node.TheFolds.{fold-Node}
use Rattle.embellished.specs.Facts.{facts_over}
use Rattle.kept_results.specs.Looking.{own_facts}
use Rattle.kept_results.specs.declared.memo.Memo.{Memo}
use Rattle.kept_results.specs.declared.memo.Memo.TheViews.{roll-Memo}

abbrev pub blank_over : Head → List Memo → Memo
blank_over head below =
    roll-Memo record {
      former = None;
      facts = facts_over head (map own_facts below);
      entries = [];
      below = below;
    }

-- nothing is kept of any element, nor is one marked
unfoldable pub blank : Node → Memo
blank node = fold-Node Memo (λ layer. blank_over layer.head layer.children) node
