use Rattle.std.proofs.Common.{◌≡◌, ◌∙◌, ap, arith, subst, sym, pos, IfOk}
use Rattle.std.proofs.lemmas.Result.{IfOk-weaker}
use Rattle.std.specs.List.{All}
use Rattle.font_metrics.specs.Metrics.{MetricsValue}
use Rattle.font_metrics.specs.Taken.{IsTaken}
use Rattle.math_tree.specs.Trees.{IsWhole, TreeValue}
use Rattle.box_writer.specs.Items.{IsOfFont}
use Rattle.layout_model.specs.Layout.{laid_tree}
use Rattle.layout_model.specs.declared.laid.Laid.{Laid}
use Rattle.placement.specs.Placing.{placed}
use Rattle.edit_session.proofs.Whole.{glyphs_known, root_agrees, root_backed, root_few, root_kept, root_laid, root_levels, root_stored}
use Rattle.edit_session.specs.Session.{KeptSession, page}
use Rattle.edit_session.proofs.session.Session.placed.Goals as goal

pub place_kept-requires-clause-agrees : goal.place_kept-requires-clause-agrees
place_kept-requires-clause-agrees c =
    let held = c.self.inside.layouts in
    let whole = subst IsWhole c.tree.ensures c.root.ensures.whole in
    let top = c.root.ensures.exact ∙ ap (λ (t : TreeValue). t.root) c.tree.ensures in
    root_agrees held c.metrics-metrics.result.now c.root.result.now c.memo.result.now c.context-context.result c.metrics-metrics.ensures top c.memo.ensures c.context-context.ensures c.self.invariant.sealed whole

pub place_kept-requires-clause-backed : goal.place_kept-requires-clause-backed
place_kept-requires-clause-backed c =
    let held = c.self.inside.layouts in
    let whole = subst IsWhole c.tree.ensures c.root.ensures.whole in
    let top = c.root.ensures.exact ∙ ap (λ (t : TreeValue). t.root) c.tree.ensures in
    root_backed held c.metrics-metrics.result.now c.root.result.now c.memo.result.now c.context-context.result c.metrics-metrics.ensures top c.memo.ensures c.context-context.ensures
    c.self.invariant.sealed whole c.store.result.now c.store.ensures

pub place_kept-requires-clause-few : goal.place_kept-requires-clause-few
place_kept-requires-clause-few c =
    let held = c.self.inside.layouts in
    let whole = subst IsWhole c.tree.ensures c.root.ensures.whole in
    let top = c.root.ensures.exact ∙ ap (λ (t : TreeValue). t.root) c.tree.ensures in
    root_few held c.metrics-metrics.result.now c.root.result.now c.memo.result.now c.context-context.result c.metrics-metrics.ensures top c.memo.ensures c.context-context.ensures c.self.invariant.sealed whole

pub place_kept-requires-clause-kept : goal.place_kept-requires-clause-kept
place_kept-requires-clause-kept c =
    let held = c.self.inside.layouts in
    let whole = subst IsWhole c.tree.ensures c.root.ensures.whole in
    let top = c.root.ensures.exact ∙ ap (λ (t : TreeValue). t.root) c.tree.ensures in
    root_kept held c.metrics-metrics.result.now c.root.result.now c.memo.result.now c.context-context.result c.metrics-metrics.ensures top c.memo.ensures c.context-context.ensures c.self.invariant.sealed whole

pub place_kept-requires-clause-levels : goal.place_kept-requires-clause-levels
place_kept-requires-clause-levels c =
    let held = c.self.inside.layouts in
    let whole = subst IsWhole c.tree.ensures c.root.ensures.whole in
    let top = c.root.ensures.exact ∙ ap (λ (t : TreeValue). t.root) c.tree.ensures in
    let few = root_levels held c.metrics-metrics.result.now c.root.result.now c.memo.result.now c.context-context.result c.metrics-metrics.ensures top c.memo.ensures c.context-context.ensures c.self.invariant.sealed whole in
    omega (arith, few)

pub place_kept-requires-clause-stored : goal.place_kept-requires-clause-stored
place_kept-requires-clause-stored c =
    let held = c.self.inside.layouts in
    let whole = subst IsWhole c.tree.ensures c.root.ensures.whole in
    let top = c.root.ensures.exact ∙ ap (λ (t : TreeValue). t.root) c.tree.ensures in
    root_stored held c.metrics-metrics.result.now c.root.result.now c.memo.result.now c.context-context.result c.metrics-metrics.ensures top c.memo.ensures c.context-context.ensures c.self.invariant.sealed whole

pub returns-clause-page : goal.returns-clause-page
returns-clause-page c =
    let held = c.self.inside.layouts in
    let whole = subst IsWhole c.tree.ensures c.root.ensures.whole in
    let top = c.root.ensures.exact ∙ ap (λ (t : TreeValue). t.root) c.tree.ensures in
    let same = root_laid held c.metrics-metrics.result.now c.root.result.now c.memo.result.now c.context-context.result c.metrics-metrics.ensures top c.memo.ensures c.context-context.ensures c.self.invariant.sealed whole in
    subst (λ (s : KeptSession). IfOk c.place_kept.result (λ items. items ≡ page s.held)) c.self.view_is
    (subst (λ (l : Laid). IfOk c.place_kept.result (λ items. items ≡ placed l (pos 0) (pos 0))) same c.place_kept.ensures)

pub returns-clause-glyphs : goal.returns-clause-glyphs
returns-clause-glyphs c =
    let held = c.self.inside.layouts in
    let whole = subst IsWhole c.tree.ensures c.root.ensures.whole in
    let top = c.root.ensures.exact ∙ ap (λ (t : TreeValue). t.root) c.tree.ensures in
    let same = root_laid held c.metrics-metrics.result.now c.root.result.now c.memo.result.now c.context-context.result c.metrics-metrics.ensures top c.memo.ensures c.context-context.ensures c.self.invariant.sealed whole in
    let metrics = c.args.self.now.held.metrics in
    let all = placed (laid_tree held.metrics held.tree) (pos 0) (pos 0) in
    let fonts : held.metrics ≡ metrics = ap (λ (s : KeptSession). s.held.metrics) c.self.view_is in
    let known = subst (λ (m : MetricsValue). All (IsOfFont m) all) fonts
    (glyphs_known held.metrics held.tree (subst IsTaken c.metrics-metrics.ensures c.is_taken.ensures) c.self.invariant.sealed.fit) in
    IfOk-weaker c.place_kept.result (λ items. items ≡ all) (All (IsOfFont metrics)) (λ items e. subst (All (IsOfFont metrics)) (sym e) known)
    (subst (λ (l : Laid). IfOk c.place_kept.result (λ items. items ≡ placed l (pos 0) (pos 0))) same c.place_kept.ensures)
