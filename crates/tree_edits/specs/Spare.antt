-- The root that stands in a tree while its elements are changed.
use Rattle.std.specs.Prelude.{[], codes}
use Rattle.math_tree.specs.Trees.{node}
use Rattle.math_tree.specs.declared.kind.Kind.TheVariants.{Math}
use Rattle.math_tree.specs.declared.node.Head.{Head}
use Rattle.math_tree.specs.declared.node.Node.{Node}

abbrev pub spare_head : Head
spare_head =
    record { id = record { 0 = 1 }; name = codes "math"; kind = Math; attributes = []; text = [] }

unfoldable pub spare_root : Node
spare_root = node spare_head []
