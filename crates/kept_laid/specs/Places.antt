-- Where the children in flow stand among all children of an element.
use Rattle.std.specs.Prelude.{ℕ, List, length, take}
use Rattle.math_tree.specs.declared.node.Node.{Node}
use Rattle.math_tree.specs.declared.node.Node.TheViews.{out-Node}
use Rattle.embellished.specs.Facts.{facts}
use Rattle.embellished.specs.Flow.{shown_by}
use Rattle.embellished.specs.Seen.{Child, children_from, laid_child}

abbrev pub all_children : Node → List Child
all_children node = children_from 0 (out-Node node).children

-- so many of the children before a place may be in flow
abbrev pub shown_before : Node → ℕ → ℕ
shown_before node place =
    length (shown_by laid_child (facts node).laid (take place (all_children node)))
