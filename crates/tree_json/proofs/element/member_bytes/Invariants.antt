use Rattle.std.proofs.Common.{◌≡◌, ◌+◌, ◌≤◌, map, min}
use Rattle.math_tree.specs.Attributes.{bytes_of_attributes}
use Rattle.tree_json.proofs.Members.{attribute_at}
use Rattle.tree_json.proofs.element.member_bytes.Given as goal

abbrev pub invariant-loop-name : goal.invariant-loop-name
invariant-loop-name l =
    (min (l.bytes + bytes_of_attributes (map attribute_at l.name-iterator)) 18446744073709551615
    ≡ min (bytes_of_attributes (map attribute_at l.members.entries)) 18446744073709551615)
    × (l.bytes ≤ 18446744073709551615)
