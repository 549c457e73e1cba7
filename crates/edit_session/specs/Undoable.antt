-- What a session tells as a ground for undoing.
use Rattle.std.specs.Prelude.{ℕ}
use Rattle.math_tree.specs.Trees.{TreeValue}
use Rattle.math_tree.specs.declared.node.Node.{Node}
use Rattle.layout_model.specs.Layout.{is_tree_in_range}
use Rattle.edit_session.specs.Session.{SessionValue, page}
use Rattle.edit_ring.specs.Grounds.{GroundTold}

-- a tree of a root; whether it is in range, and where everything stands, is told by the root alone
abbrev pub of_root : Node → TreeValue
of_root root = record { root = root; next_id = 0 }

-- its trees that are good are those in range
abbrev pub told : SessionValue → GroundTold
told session = record {
  tree = session.tree;
  metrics = session.metrics;
  is_good = λ root. is_tree_in_range session.metrics (of_root root);
  boxes = λ root. page (record { tree = of_root root; metrics = session.metrics });
}
