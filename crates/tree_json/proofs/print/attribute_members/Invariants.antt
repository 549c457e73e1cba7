use Rattle.std.proofs.Common.{◌≡◌, take}
use Rattle.serde_json.specs.View.{members_view}
use Rattle.tree_json.specs.Print.{members_of}
use Rattle.tree_json.proofs.print.attribute_members.Given as goal

-- the members of the attributes so far
abbrev pub invariant-loop-attribute : goal.invariant-loop-attribute
invariant-loop-attribute l = members_view l.members.entries ≡ members_of (take l.attribute-index l.attributes)
