use Rattle.std.proofs.Common.{rules}
use Rattle.tree_edits.proofs.Measuring.{all_attributes}
use Rattle.tree_edits.proofs.measure.attribute_bytes.Goals as goal

pub returns : goal.returns
returns c = all_attributes c.args.attributes.now c.loop-attribute.attribute-index c.loop-attribute.bytes (search rules) c.loop-attribute.invariant
