use Rattle.memo_tree.proofs.Roots.{context_is}
use Rattle.memo_tree.proofs.root.context_of.Goals as goal

pub returns-clause-exact : goal.returns-clause-exact
returns-clause-exact c = context_is c.args.metrics.now c.args.tree.now c.root-root.result.now c.root_style.result c.root-root.ensures.exact c.root_style.ensures.value
