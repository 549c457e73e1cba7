use Rattle.std.proofs.Common.{◌∙◌, ap, sym, lit<, ◌+ℤ◌}
use Rattle.fixed_units.proofs.Within.{sum_in}
use Rattle.fixed_units.specs.declared.boxes.MathBox.{MathBox}
use Rattle.font_metrics.proofs.Scaling.{back64, within64}
use Rattle.layout_model.specs.declared.context.Context.{Context}
use Rattle.outcomes.proofs.MirroredRows.{lone_frame, with_accent}
use Rattle.outcomes.proofs.row.row_frame.Goals as goal

pub returns-then-count-eq1 : goal.returns-then-count-eq1
returns-then-count-eq1 g c =
    let e = c.args.e.now in
    let frame = c.requires.frame in
    let x_in = c.row_x.ensures.within in
    let accent_in = c.frame.ensures.stored.accent in
    let x = back64 x_in (lit< tt) ∙ c.row_x.ensures.value in
    let own = back64 accent_in (lit< tt) ∙ ap (λ (f : MathBox). f.accent) c.frame.ensures.value in
    let accent = back64 (sum_in (within64 x_in (lit< tt)) (within64 accent_in (lit< tt))) (lit< tt) ∙ (λ i. x i +ℤ own i) in
    with_accent c.args.row.now.frame _ _ c.requires.frame accent
    ∙ sym (lone_frame e c.args.row.now (ap (λ (x : Context). x.style.rtl) (sym c.context.ensures.value) ∙ c.if-context.true) (sym c.count.ensures.seen ∙ c.if-count-eq1.true))
