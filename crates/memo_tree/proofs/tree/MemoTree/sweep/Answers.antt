use Rattle.std.proofs.Common.{◌≤◌, sym, subst}
use Rattle.kept_results.specs.Ends.{kept_count}
use Rattle.kept_sweep.proofs.Backed.{part_own_runs_law}
use Rattle.memo_tree.specs.Trees.{IsLaidOut, IsSwept, MemoTreeValue}
use Rattle.memo_tree.proofs.Roots.{few_kept, few_swept, laid_out, sealed_of}
use Rattle.memo_tree.proofs.tree.MemoTree.sweep.Goals as goal

pub returns-then-self-clause-swept : goal.returns-then-self-clause-swept
returns-then-self-clause-swept c = subst IsSwept c.self.view_is (c.self.invariant.swept_are c.if-self.true)

pub returns-then-self-clause-few : goal.returns-then-self-clause-few
returns-then-self-clause-few c =
    let old : MemoTreeValue = record { tree = c.self.inside.tree; metrics = c.self.inside.metrics; memo = c.self.inside.memo; store = c.self.inside.store } in
    subst (λ (v : MemoTreeValue). kept_count v.memo ≤ 131_072) c.self.view_is
    (few_swept old c.self.invariant.whole (c.self.invariant.swept_are c.if-self.true))

pub returns-clause-sealed : goal.returns-clause-sealed
returns-clause-sealed c =
    let old : MemoTreeValue = record { tree = c.self.inside.tree; metrics = c.self.inside.metrics; memo = c.self.inside.memo; store = c.self.inside.store } in
    let laid = subst IsLaidOut (sym c.self.view_is) c.requires.sealed in
    let root = c.root.result.now in
    let context = c.context_of-context.result in
    let memo = c.sweep_stored.new.memo in
    let done = c.in_ok-sweep_stored.ensures {u = tt} in
    laid_out old.metrics old.tree root context memo c.sweep_stored.new.store c.root.ensures.exact c.context_of-context.ensures.exact
    (sealed_of old.metrics root context memo done.swept) done.backed (part_own_runs_law memo old.memo laid.has_runs.own done.part) done.idle laid.fit

pub returns-clause-few : goal.returns-clause-few
returns-clause-few c =
    few_kept c.self.inside.metrics c.self.inside.tree c.root.result.now c.context_of-context.result c.sweep_stored.new.memo
    c.root.ensures.exact c.context_of-context.ensures.suits c.root.ensures.whole (c.in_ok-sweep_stored.ensures {u = tt}).swept
