-- The tree that a JSON value stands for, or its first fault.
use Rattle.std.specs.Prelude.{◌≡◌, ℕ, ◌+◌, List, length, Option, Some, None, Result, Ok, Err}
use Rattle.std.specs.List.{sum_by}
use Rattle.serde_json.specs.Data.{Data}
use Rattle.tree_json.specs.Elements.{over, elements, name_in, kind_in, attributes_held, text_held}
use Rattle.tree_json.specs.Faults.{first_fault_after}
use Rattle.math_tree.specs.Numbering.{Planted, nodes_from}
use Rattle.math_tree.specs.Trees.{TreeValue, node}
use Rattle.tree_json.specs.declared.fault.TreeFault.{TreeFault}
use Rattle.math_tree.specs.declared.node.Head.{Head}
use Rattle.math_tree.specs.declared.node.Node.{Node}
use Rattle.tree_json.specs.declared.portion.Portion.TheVariants.{Part, Whole}
use Rattle.tree_json.specs.declared.refusal.TreeRefusal.{TreeRefusal}
use Rattle.tree_json.specs.declared.refusal.TreeRefusal.TheVariants.{Fault, Memory}

-- what an element says of itself, under this id
abbrev pub head_of : ℕ → Data → Head
head_of id value = record {
  id = record { 0 = id };
  name = name_in value;
  kind = kind_in value;
  attributes = attributes_held value;
  text = text_held value;
}

-- an element over the parts right below it, which begin behind it
abbrev pub planted : Data → List Planted → Planted
planted value parts = record {
  size = 1 + sum_by (λ part. part.size) parts;
  node = λ id. node (head_of id value) (nodes_from (id + 1) parts);
}

-- an element with those below it: their ids rise by one in document order from this on
unfoldable pub node_of : ℕ → Data → Node
node_of id value = (over planted value).node id

abbrev pub tree_without : Option TreeFault → Data → Result TreeValue TreeFault
tree_without (Some fault) value = Err fault
tree_without None value = Ok record {
  root = node_of 1 value;
  next_id = 1 + length (elements 1 value);
}

-- the first fault of a value's elements in document order, or else the tree of them all
unfoldable pub tree_of : Data → Result TreeValue TreeFault
tree_of value = tree_without (first_fault_after Whole 0 0 (elements 1 value)) value

abbrev pub part_without : Option TreeFault → Data → Result Node TreeFault
part_without (Some fault) value = Err fault
part_without None value = Ok (node_of 1 value)

-- the same of an element that is to stand in a tree, which needn't be `math`; its own level is 1
unfoldable pub part_of : Data → Result Node TreeFault
part_of value = part_without (first_fault_after Part 0 0 (elements 1 value)) value

-- a reading answers what is meant; want of memory may come at any value
abbrev pub Reads : {A : Type 0} → Result A TreeFault → Result A TreeRefusal → Type 0
Reads meant (Ok read) = meant ≡ Ok read
Reads meant (Err (Fault fault)) = meant ≡ Err fault
Reads meant (Err Memory) = Unit {0}
