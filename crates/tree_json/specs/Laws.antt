-- What the tree of a value is, said of the list of the value's elements.
use Rattle.std.specs.Prelude.{◌≡◌, ℕ, ◌+◌, ◌<◌, List, [], ◌∷◌, length, take, slice_get, Option, Some, None, Ok, Err}
use Rattle.std.specs.List.{sum_by}
use Rattle.serde_json.specs.Data.{Data}
use Rattle.tree_json.specs.Elements.{Element, below, elements, bytes_held}
use Rattle.tree_json.specs.Faults.{fault_of, fault_at}
use Rattle.tree_json.specs.Reading.{head_of, tree_of}
use Rattle.math_tree.specs.Trees.{TreeValue, Listed, listed}
use Rattle.tree_json.specs.declared.fault.ElementFault.{ElementFault}
use Rattle.tree_json.specs.declared.fault.TreeFault.{TreeFault}
use Rattle.tree_json.specs.declared.portion.Portion.TheVariants.{Whole}

-- the fault of the element at an index of a list, if there are an element and a fault: its place is
-- one more, and the bytes are those of all elements up to it
abbrev pub HasFault : List Element → ℕ → Option ElementFault → Type 0
HasFault list index fault = (element : Element) × (slice_get list index ≡ Some element)
    × (fault_of Whole (index + 1) (sum_by (λ e. bytes_held e.value) (take (index + 1) list)) element
    ≡ fault)

-- it is that of an element before which no element has one
pub record IsFirstFault (list : List Element) (found : TreeFault) : Type 0 where
  pub index : ℕ
  pub fault : ElementFault
  pub has : HasFault list index (Some fault)
  pub earlier : (i : ℕ) → i < index → HasFault list i None
  pub told : found ≡ fault_at (index + 1) fault

-- the fault of a value is the first of its elements
abbrev pub FirstFaultLaw : Type 0
FirstFaultLaw = (value : Data) (found : TreeFault) → tree_of value ≡ Err found
    → IsFirstFault (elements 1 value) found

-- an element of a value, under an id, as its tree lists it
abbrev pub entry : ℕ → Element → Listed
entry id element = record {
  level = element.level;
  head = head_of id element.value;
  children = length (below element.value);
}

abbrev pub entries : ℕ → List Element → List Listed
entries id [] = []
entries id (element ∷ elements) = entry id element ∷ entries (id + 1) elements

-- where a value has a tree, no element has a fault, and the tree's elements in document order are
-- those of the value, whose ids are their places
pub record IsTreeOf (value : Data) (tree : TreeValue) : Type 0 where
  pub faultless : (i : ℕ) → i < length (elements 1 value) → HasFault (elements 1 value) i None
  pub listing : listed 1 tree.root ≡ entries 1 (elements 1 value)
  pub next : tree.next_id ≡ 1 + length (elements 1 value)

abbrev pub TreeLaw : Type 0
TreeLaw = (value : Data) (tree : TreeValue) → tree_of value ≡ Ok tree → IsTreeOf value tree
