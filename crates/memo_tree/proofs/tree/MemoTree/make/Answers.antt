use Rattle.std.proofs.Common.{◌∙◌, sym, ap, subst}
use Rattle.outcome_cells.specs.Store.{StoreValue}
use Rattle.kept_results.specs.Backed.{HaveOwnRuns, IsBacked}
use Rattle.kept_results.specs.Tidy.{IsTidy}
use Rattle.kept_edits.specs.Blank.{blank}
use Rattle.kept_edits.specs.Laws.{IsReadyFor}
use Rattle.kept_edits.proofs.Backed.{blank_backed_law, blank_own_runs}
use Rattle.kept_edits.proofs.Tidying.{blank_tidy}
use Rattle.kept_edits.proofs.Unlaid.{blank_law}
use Rattle.memo_tree.proofs.tree.MemoTree.make.Goals as goal

pub returns-in-Ok-clause-changed : goal.returns-in-Ok-clause-changed
returns-in-Ok-clause-changed c =
    let m = c.args.metrics in
    let root = c.args.tree.root in
    let runs = c.make.result.runs in
    let is = c.in-Ok.ensures {u = tt} ∙ ap blank c.root.ensures.exact in
    record {
      ready = subst (IsReadyFor m root) (sym is) (blank_law m root).0;
      has_runs = record { backed = subst (IsBacked m runs root) (sym is) (blank_backed_law m runs root); own = subst HaveOwnRuns (sym is) (blank_own_runs root) };
      idle = ap (λ (s : StoreValue). s.checkpoint) c.make.ensures;
      tidy = subst IsTidy (sym is) (blank_tidy m root);
    }
