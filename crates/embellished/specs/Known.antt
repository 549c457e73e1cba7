-- What an element of a tree and all elements below it are among operators.
use Rattle.std.specs.Prelude.{◌≡◌, List, map}
use Rattle.math_tree.specs.declared.node.Head.{Head}
use Rattle.math_tree.specs.declared.node.Node.{Node}
use Rattle.math_tree.specs.declared.node.Node.TheFolds.{fold-Node}
use Rattle.math_tree.specs.declared.node.Node.TheViews.{out-Node}
use Rattle.embellished.specs.Facts.{facts, facts_over}
use Rattle.embellished.specs.declared.facts.Facts.{Facts}
use Rattle.embellished.specs.declared.known.Known.{Known}
use Rattle.embellished.specs.declared.known.Known.TheViews.{out-Known, roll-Known}

abbrev pub own_facts : Known → Facts
own_facts known = (out-Known known).facts

-- an element over what is known of its children
abbrev pub known_over : Head → List Known → Known
known_over head below =
    let kids = map own_facts below in
    roll-Known record { facts = facts_over head kids; kids = kids; below = below }

-- an element of a tree: each layer is made of those below it
unfoldable pub known_of : Node → Known
known_of node = fold-Node Known (λ layer. known_over layer.head layer.children) node

-- what is known of an element is its own facts, those of its children, and the same of each child
pub record IsKnown (node : Node) (known : Known) : Type 0 where
  pub facts_are : (out-Known known).facts ≡ facts node
  pub kids_are : (out-Known known).kids ≡ map facts (out-Node node).children
  pub below_are : (out-Known known).below ≡ map known_of (out-Node node).children
