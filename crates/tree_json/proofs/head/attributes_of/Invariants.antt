use Rattle.std.proofs.Common.{◌≡◌, ◌++◌, map}
use Rattle.tree_json.proofs.Members.{attribute_at}
use Rattle.tree_json.proofs.head.attributes_of.Given as goal

abbrev pub invariant-loop-name : goal.invariant-loop-name
invariant-loop-name l = l.items ++ map attribute_at l.name-iterator ≡ map attribute_at l.members.entries
