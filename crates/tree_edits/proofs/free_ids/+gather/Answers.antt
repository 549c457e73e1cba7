use Rattle.std.proofs.Common.{rules}
use Rattle.tree_edits.proofs.Gathered.{gathered_all}
use Rattle.tree_edits.proofs.free_ids.+gather.Goals as goal

pub returns : goal.returns
returns t c = gathered_all c.args.ids.now c.loop-child.ids c.args.element.now c.loop-child.child-index (search rules) c.loop-child.invariant
