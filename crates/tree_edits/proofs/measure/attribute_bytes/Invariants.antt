use Rattle.std.proofs.Common.{◌≡◌, take}
use Rattle.std.specs.List.{sum_by}
use Rattle.math_tree.specs.Attributes.{bytes_of_attribute}
use Rattle.tree_edits.specs.Sizes.{capped}
use Rattle.tree_edits.proofs.measure.attribute_bytes.Given as goal

-- those so far
abbrev pub invariant-loop-attribute : goal.invariant-loop-attribute
invariant-loop-attribute l = l.bytes ≡ capped (sum_by bytes_of_attribute (take l.attribute-index l.attributes))
