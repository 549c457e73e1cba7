use Rattle.std.proofs.Common.{rules, ◌≡◌, ◌∙◌, subst, ap, List, [], ◌∷◌, ℤ, ◌-ℤ◌, w64, FitsSigned}
use Rattle.std.specs.Result.{IfOk}
use Rattle.std.proofs.lemmas.Int.{to_z-of_z}
use Rattle.font_metrics.specs.declared.mark.Mark.{Mark}
use Rattle.layout_model.specs.Direction.{turned_mark}
use Rattle.layout_model.specs.declared.context.Context.{Context}
use Rattle.outcomes.specs.Reach.{mark_reached}
use Rattle.outcomes.proofs.Casts.{difference_told, told_wide}
use Rattle.outcomes.proofs.root.root_marks.Goals as goal

pub returns : goal.returns
returns g c =
    let e = c.args.e.now in
    let root = c.args.root.now in
    let rtl = ap (λ (x : Context). x.style.rtl) c.context.ensures.value in
    let width_fits : FitsSigned w64 root.frame.width = search rules in
    let width = to_z-of_z w64 root.frame.width width_fits in
    let x_fits : FitsSigned w64 root.base.x = search rules in
    let own_fits : FitsSigned w64 c.x_of.result = search rules in
    let base_fits : FitsSigned w64 c.args.base = search rules in
    let part = difference_told root.base.x c.x_of.result c.from.result c.from-2.result x_fits own_fits c.from.ensures c.from-2.ensures
    ∙ ap (λ (z : ℤ). root.base.x -ℤ z) c.x_of.ensures in
    let surd = c.turned_mark-surd.ensures ∙ (λ i. mark_reached (turned_mark (rtl i) (width i) (part i) root.surd)) in
    let over = told_wide c.args.base c.from-3.result base_fits c.from-3.ensures in
    let rule = c.turned_mark-rule.ensures ∙ (λ i. mark_reached (turned_mark (rtl i) (width i) (over i) root.rule)) in
    subst (λ (list : List Mark). IfOk c.list_of.result (λ marks. marks ≡ list)) (λ i. surd i ∷ rule i ∷ []) c.list_of.ensures
