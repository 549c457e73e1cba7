-- What the reading of a part of a tree answers, where other parts were read before it.
use Rattle.std.specs.Prelude.{◌≡◌, ℕ, ◌+◌, List, length, map, Option, Some, None, Result, Ok, Err}
use Rattle.std.specs.List.{AllByRecursion, flat_map, sum_by}
use Rattle.serde_json.specs.Data.{Data}
use Rattle.math_tree.specs.Attributes.{IsInOrder}
use Rattle.tree_json.specs.Elements.{Element, over, elements, bytes_held}
use Rattle.tree_json.specs.Faults.{first_fault_after}
use Rattle.math_tree.specs.Numbering.{nodes_from}
use Rattle.tree_json.specs.Reading.{planted, node_of}
use Rattle.math_tree.specs.Trees.{Listed, listed}
use Rattle.tree_json.specs.declared.fault.TreeFault.{TreeFault}
use Rattle.math_tree.specs.declared.node.Node.{Node}
use Rattle.tree_json.specs.declared.portion.Portion.{Portion}
use Rattle.tree_json.specs.declared.read.Seen.{Seen}
use Rattle.tree_json.specs.declared.refusal.TreeRefusal.{TreeRefusal}
use Rattle.tree_json.specs.declared.refusal.TreeRefusal.TheVariants.{Fault, Memory}

-- the first fault of elements that come after those seen
abbrev pub fault_behind : Portion → Seen → List Element → Option TreeFault
fault_behind portion seen elements = first_fault_after portion seen.elements seen.bytes elements

-- what is seen once these are read too
abbrev pub seen_with : Seen → List Element → Seen
seen_with seen elements = record {
  elements = seen.elements + length elements;
  bytes = seen.bytes + sum_by (λ e. bytes_held e.value) elements;
}

-- elements side by side, with those below them: the ids rise by one in document order from this on
abbrev pub nodes_of : ℕ → List Data → List Node
nodes_of id values = nodes_from id (map (over planted) values)

-- a part's elements have no fault, it is what they mean from the next id on, and they are seen too;
-- or the first of their faults
abbrev pub ReadsPart : {A : Type 0} → Portion → List Element → (ℕ → A) → Seen → Seen
    → Result A TreeRefusal
    → Type 0
ReadsPart portion elements meant before after (Ok read) =
    (fault_behind portion before elements ≡ None)
    × (read ≡ meant (before.elements + 1))
    × (after ≡ seen_with before elements)
ReadsPart portion elements meant before after (Err (Fault fault)) =
    fault_behind portion before elements ≡ Some fault
ReadsPart portion elements meant before after (Err Memory) = Unit {0}

-- an element with all below it, and elements side by side with all below them
abbrev pub ReadsElement : Portion → ℕ → Data → Seen → Seen → Result Node TreeRefusal → Type 0
ReadsElement portion level value = ReadsPart portion (elements level value) (λ id. node_of id value)

abbrev pub ReadsElements : Portion → ℕ → List Data → Seen → Seen → Result (List Node) TreeRefusal
    → Type 0
ReadsElements portion level values =
    ReadsPart portion (flat_map (elements level) values) (λ id. nodes_of id values)

-- ---- the order of attributes

-- the attributes of each of these elements stand in order
abbrev pub AreOrdered : List Listed → Type 0
AreOrdered elements = AllByRecursion (λ e. IsInOrder e.head.attributes) elements

-- so in an element at a level and in all below it, and in elements side by side
abbrev pub IsOrderedAt : ℕ → Node → Type 0
IsOrderedAt level node = AreOrdered (listed level node)

abbrev pub AreOrderedAt : ℕ → List Node → Type 0
AreOrderedAt level nodes = AreOrdered (flat_map (listed level) nodes)
