use Rattle.std.proofs.Common.{◌≡◌, drop}
use Rattle.math_tree.specs.Attributes.{value_of}
use Rattle.math_tree.proofs.attributes.value_of.Given as goal

-- none of those so far has the name
abbrev pub invariant-loop-item : goal.invariant-loop-item
invariant-loop-item l = value_of l.name l.items ≡ value_of l.name (drop l.item-index l.items)
