use Rattle.kept_results.proofs.Whole.{kept_law}
use Rattle.memo_tree.specs.Trees.{context_of}
use Rattle.edit_session.proofs.session.Session.layouts.Goals as goal

pub returns-clause-needed : goal.returns-clause-needed
returns-clause-needed c =
    let laid = c.self.inside.layouts in
    let sealed = c.self.invariant.sealed.sealed in
    kept_law laid.metrics laid.tree.root laid.memo (context_of laid.metrics laid.tree) sealed.ready.agrees sealed.kept
