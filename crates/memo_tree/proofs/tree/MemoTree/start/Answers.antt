use Rattle.std.proofs.Common.{◌≡◌, ℕ, ap, subst, Bool, true}
use Rattle.outcome_cells.specs.Store.{StoreValue}
use Rattle.font_metrics.specs.Metrics.{MetricsValue}
use Rattle.math_tree.specs.Trees.{IsWhole, TreeValue}
use Rattle.math_tree.specs.declared.node.Node.{Node}
use Rattle.layout_model.specs.declared.context.Context.{Context}
use Rattle.kept_sweep.specs.Swept.{CountsNeeded}
use Rattle.memo_tree.specs.Counted.{TakesVisits}
use Rattle.memo_tree.specs.Trees.{context_of}
use Rattle.memo_tree.proofs.Changes.{visits_law}
use Rattle.memo_tree.proofs.Roots.{few_kept, laid_out, of_tree, ranged, sealed_of, swept_of}
use Rattle.memo_tree.proofs.tree.MemoTree.start.Goals as goal

-- the steps that the root takes, in the context that was made for it
visits : (m : MetricsValue) (tree : TreeValue) (root : Node) (context : Context) (from to : ℕ) → IsWhole tree → root ≡ tree.root → context ≡ context_of m tree
    → CountsNeeded m root context from to → TakesVisits m tree from to
visits m tree root context from to whole r s counts =
    visits_law m tree from to whole (of_tree m tree root context (λ (n : Node) (k : Context). CountsNeeded m n k from to) r s counts)

pub returns-in-Ok-clause-visits : goal.returns-in-Ok-clause-visits
returns-in-Ok-clause-visits g c =
    visits _ _ _ _ _ _ c.root.ensures.whole c.root.ensures.exact c.context_of-context.ensures.exact (c.in-Ok.ensures {u = tt}).steps

pub returns-in-Err-clause-visits : goal.returns-in-Err-clause-visits
returns-in-Err-clause-visits g c =
    visits _ _ _ _ _ _ c.root.ensures.whole c.root.ensures.exact c.context_of-context.ensures.exact (c.in-Err.ensures {u = tt}).steps

pub returns-in-Ok-clause-swept : goal.returns-in-Ok-clause-swept
returns-in-Ok-clause-swept g c =
    let made = c.in-Ok.ensures {u = tt} in
    swept_of c.args.metrics c.args.tree c.root.result.now c.context_of-context.result c.in-Ok.memo c.start_layout-made.new.store c.root.ensures.exact
    c.context_of-context.ensures.exact made.kept (made.one (ap (λ (s : StoreValue). s.runs) c.make-store.ensures))

pub returns-in-Ok-clause-few : goal.returns-in-Ok-clause-few
returns-in-Ok-clause-few g c =
    few_kept c.args.metrics c.args.tree c.root.result.now c.context_of-context.result c.in-Ok.memo c.root.ensures.exact c.context_of-context.ensures.suits c.root.ensures.whole
    (c.in-Ok.ensures {u = tt}).kept

pub returns-in-Ok-clause-fit : goal.returns-in-Ok-clause-fit
returns-in-Ok-clause-fit g c =
    let m = c.args.metrics in
    let tree = c.args.tree in
    let root = c.root.result.now in
    let context = c.context_of-context.result in
    let memo = c.in-Ok.memo in
    let made = c.in-Ok.ensures {u = tt} in
    laid_out m tree root context memo c.start_layout-made.new.store c.root.ensures.exact c.context_of-context.ensures.exact (sealed_of m root context memo made.kept)
    made.backed made.own made.idle
    (subst (λ (b : Bool). b ≡ true) (ranged m tree root context c.root.ensures.exact c.context_of-context.ensures.exact) made.fit)
