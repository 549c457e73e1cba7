use Rattle.std.proofs.Common.{◌≡◌, take}
use Rattle.math_tree.proofs.attributes.Attributes.copy.Given as goal

-- those so far
abbrev pub invariant-loop-attribute : goal.invariant-loop-attribute
invariant-loop-attribute l = l.items ≡ take l.attribute-index l.self
