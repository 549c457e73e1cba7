use Rattle.std.proofs.Common.{◌+◌, ◌-◌, ◌*◌, ℕ, List, Ok, length}
use Rattle.json.specs.Token.{Token}
use Rattle.serde_json.specs.Data.{Data}
use Rattle.tree_json.specs.Parts.{AreOrderedAt, ReadsElements}
use Rattle.math_tree.specs.declared.node.Node.{Node}
use Rattle.tree_json.specs.declared.portion.Portion.TheVariants.{Whole}
use Rattle.tree_reader.specs.Read.{IsOpenWith, depth_at}
use Rattle.tree_reader.specs.declared.seen.Seen.{Seen}
use Rattle.tree_reader.proofs.Items.{IsOpenArray}
use Rattle.tree_reader.proofs.element.+read.Given as goal

-- the elements so far, and what they mean
pub record ReadSoFar (level : ℕ) (before : List Token) (first : Seen) (now : List Token) (seen : Seen) (nodes : List Node) : Type 0 where
  pub list : List Data
  pub begun : IsOpenArray (depth_at level) before list now
  pub means : ReadsElements Whole level list
      (record { elements = first.elements; bytes = first.bytes }) (record { elements = seen.elements; bytes = seen.bytes }) (Ok nodes)
  pub order : AreOrderedAt level nodes

-- the levels that are left end the recursion
abbrev pub decreases-element : goal.decreases-element
decreases-element l = 4 * (62 - l.level)

abbrev pub decreases-children : goal.decreases-children
decreases-children l = 4 * (62 - l.level) + 1

abbrev pub decreases-member : goal.decreases-member
decreases-member l = 4 * (62 - l.level) - 2

abbrev pub decreases-members : goal.decreases-members
decreases-members l = 4 * (62 - l.level) - 1

abbrev pub invariant-members-members : goal.invariant-members-members
invariant-members-members l = IsOpenWith l.level l.fn.reader l.fn.seen l.reader l.seen l.said

abbrev pub decreases-members-members : goal.decreases-members-members
decreases-members-members l = length l.reader

abbrev pub invariant-children-items : goal.invariant-children-items
invariant-children-items l = ReadSoFar l.level l.fn.reader l.fn.seen l.reader l.seen l.nodes

abbrev pub decreases-children-items : goal.decreases-children-items
decreases-children-items l = length l.reader
