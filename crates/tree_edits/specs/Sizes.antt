-- How much there is in an element and in a tree, in numbers of 64 bits.
use Rattle.std.specs.Prelude.{◌≡◌, ℕ, ◌+◌, ◌-◌, ◌^◌, List, length, min, ◌||◌, Option}
use Rattle.std.specs.Option.{option_map_or}
use Rattle.math_tree.specs.Trees.{TreeValue, byte_count, element_count, listed}
use Rattle.math_tree.specs.declared.node.Node.{Node}
use Rattle.tree_edits.specs.Edits.{is_deep}
use Rattle.tree_edits.specs.declared.measure.Size.{Size}
use Rattle.tree_edits.specs.declared.totals.Totals.{Totals}

-- the greatest number stands for all that are greater
abbrev pub capped : ℕ → ℕ
capped n = min n (2 ^ 64 - 1)

-- an element with all below it
abbrev pub size_of : Node → Size
size_of element =
    record { elements = capped (element_count element); bytes = capped (byte_count element) }

abbrev pub totals_of : TreeValue → Totals
totals_of tree = record {
  deep = is_deep (listed 1 tree.root);
  size = size_of tree.root;
  next_id = capped tree.next_id;
}

-- an attribute of that name, where it has a value
abbrev pub attribute_bytes : List ℕ → Option (List ℕ) → ℕ
attribute_bytes name value = option_map_or (λ v. length name + length v) value 0

-- some bytes more, and some less
abbrev pub with_bytes : ℕ → ℕ → Totals → Totals
with_bytes more less totals =
    record totals {
      size = record { elements = totals.size.elements; bytes = totals.size.bytes + more - less };
    }

-- an element less, with all below it
abbrev pub without : Node → Totals → Totals
without element totals = record totals {
  size = record {
    elements = totals.size.elements - element_count element;
    bytes = totals.size.bytes - byte_count element;
  };
}

-- an element more, which is put in at a level
pub record Adds (level : ℕ) (new : Node) (before after : Totals) : Type 0 where
  pub deep : after.deep ≡ (before.deep || is_deep (listed level new))
  pub elements : after.size.elements ≡ capped (before.size.elements + element_count new)
  pub bytes : after.size.bytes ≡ capped (before.size.bytes + byte_count new)
  pub next : after.next_id ≡ capped (before.next_id + element_count new)

-- the same with ids of its own
pub record AddsOwn (level : ℕ) (new : Node) (before after : Totals) : Type 0 where
  pub deep : after.deep ≡ (before.deep || is_deep (listed level new))
  pub elements : after.size.elements ≡ capped (before.size.elements + element_count new)
  pub bytes : after.size.bytes ≡ capped (before.size.bytes + byte_count new)
  pub next : after.next_id ≡ before.next_id
