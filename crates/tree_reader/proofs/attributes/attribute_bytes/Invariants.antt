use Rattle.std.proofs.Common.{◌≡◌, ◌+◌, ◌≤◌, drop, min}
use Rattle.math_tree.specs.Attributes.{bytes_of_attributes}
use Rattle.tree_reader.proofs.attributes.attribute_bytes.Given as goal

-- those so far and those that are left are all
abbrev pub invariant-loop-attribute : goal.invariant-loop-attribute
invariant-loop-attribute l =
    (min (l.bytes + bytes_of_attributes (drop l.attribute-index l.attributes)) 18446744073709551615
    ≡ min (bytes_of_attributes l.attributes) 18446744073709551615)
    × (l.bytes ≤ 18446744073709551615)
