use Rattle.std.proofs.Common.{◌≡◌, ◌∙◌, ◌+◌, ℕ, sym, subst, IfOk, OnOk, Bool, true}
use Rattle.layout_model.specs.declared.laid.Laid.{Laid}
use Rattle.layout_core.proofs.Roots.{tree_laid, tree_made, tree_ranged}
use Rattle.layout_core.proofs.fresh.lay_fresh.Goals as goal

pub returns-clause-ok : goal.returns-clause-ok
returns-clause-ok g c =
    subst (λ (whole : Laid). IfOk c.lay_element.result (λ all. all ≡ whole))
    (tree_laid c.args.metrics.now c.args.tree.now c.root-root.result.now c.at_root-context.result c.root-root.ensures.exact c.at_root-context.ensures.exact) c.lay_element.ensures.ok

pub returns-clause-steps : goal.returns-clause-steps
returns-clause-steps g c =
    subst (λ (n : ℕ). OnOk c.lay_element.result (c.lay_element.new.steps ≡ c.args.steps.now + n))
    (tree_made c.args.metrics.now c.args.tree.now c.root-root.result.now c.at_root-context.result c.root-root.ensures.exact c.at_root-context.ensures.exact) c.lay_element.ensures.steps

pub returns-clause-fit : goal.returns-clause-fit
returns-clause-fit g c =
    subst (λ (fits : Bool). OnOk c.lay_element.result (fits ≡ true))
    (tree_ranged c.args.metrics.now c.args.tree.now c.root-root.result.now c.at_root-context.result c.root-root.ensures.exact c.at_root-context.ensures.exact) c.lay_element.ensures.fit

pub returns-clause-range : goal.returns-clause-range
returns-clause-range g c = λ e.
    sym (tree_ranged c.args.metrics.now c.args.tree.now c.root-root.result.now c.at_root-context.result c.root-root.ensures.exact c.at_root-context.ensures.exact) ∙ c.lay_element.ensures.range e
