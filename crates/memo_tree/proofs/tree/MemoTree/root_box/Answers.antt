use Rattle.std.proofs.Common.{sym, subst}
use Rattle.kept_results.proofs.Backed.{are_backed}
use Rattle.memo_tree.specs.Trees.{IsLaidOut}
use Rattle.memo_tree.proofs.tree.MemoTree.root_box.Goals as goal

pub root_box-requires-clause-backed : goal.root_box-requires-clause-backed
root_box-requires-clause-backed c =
    let laid = c.self.inside in
    are_backed laid.metrics laid.store.runs laid.tree.root laid.memo (subst IsLaidOut (sym c.self.view_is) c.requires.sealed).has_runs.backed
