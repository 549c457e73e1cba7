use Rattle.std.proofs.Common.{rules}
use Rattle.tree_edits.proofs.Measuring.{all_children}
use Rattle.tree_edits.proofs.measure.Size.+of.Goals as goal

pub returns : goal.returns
returns t c =
    all_children c.args.element.now c.loop-child.child-index c.loop-child.size (search rules) c.loop-child.invariant.elements c.loop-child.invariant.bytes
