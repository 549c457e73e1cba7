use Rattle.std.proofs.Common.{◌≡◌, ◌∙◌, ap, subst, sym, lit<, lit≤, ◌^◌, ℤ, map, w64, to_z, of_z}
use Rattle.fixed_units.specs.Numbers.{IsWithin}
use Rattle.fixed_units.proofs.Within.{widened}
use Rattle.font_metrics.proofs.Scaling.{back64, within64}
use Rattle.layout_model.specs.Direction.{turned}
use Rattle.layout_model.specs.Elements.{along, font, outcome}
use Rattle.layout_model.specs.Equations.{root_marks}
use Rattle.layout_model.specs.declared.context.Context.{Context}
use Rattle.row_stretch.specs.declared.parts.Row.{Row}
use Rattle.outcomes.specs.Outcomes.{IsOutcome}
use Rattle.outcomes.specs.Reach.{mark_reached}
use Rattle.outcomes.proofs.Reach.{marks_told}
use Rattle.outcomes.proofs.Roots.{on_the_baseline, root_start_in, start_told, turned_start_in}
use Rattle.outcomes.proofs.row.with_root_sign.Goals as goal

pub along-requires-clause-start : goal.along-requires-clause-start
along-requires-clause-start g c =
    let e = c.args.e.now in
    let root = c.args.root.now in
    let base = root_start_in e.metrics c.args.row.now.frame e.context.style.display (font e) root c.requires.root c.requires.frame c.requires.within.heights in
    let start = start_told e.context.style.rtl root.frame.width c.args.row.now.frame.width root.base.x c.requires.frame.width c.requires.within.frame.width base
    c.context.result.now.style.rtl c.from.result c.turned-start.result (ap (λ (x : Context). x.style.rtl) c.context.ensures.value) c.from.ensures c.turned-start.ensures in
    widened (2 ^ 62) (within64 (subst (IsWithin (2 ^ 54)) (sym start)
    (turned_start_in e.context.style.rtl root.frame.width c.args.row.now.frame.width root.base.x c.requires.frame.width c.requires.within.frame.width base)) (lit< tt)) (lit≤ tt)

pub returns : goal.returns
returns g c =
    let e = c.args.e.now in
    let row = c.args.row.now in
    let root = c.args.root.now in
    let rtl = e.context.style.rtl in
    let base = root_start_in e.metrics row.frame e.context.style.display (font e) root c.requires.root c.requires.frame c.requires.within.heights in
    let start = start_told rtl root.frame.width row.frame.width root.base.x c.requires.frame.width c.requires.within.frame.width base
    c.context.result.now.style.rtl c.from.result c.turned-start.result (ap (λ (x : Context). x.style.rtl) c.context.ensures.value) c.from.ensures c.turned-start.ensures in
    let in_reach = turned_start_in rtl root.frame.width row.frame.width root.base.x c.requires.frame.width c.requires.within.frame.width base in
    let x : to_z w64 (of_z w64 c.turned-start.result) ≡ turned rtl root.frame.width row.frame.width root.base.x =
    ap (λ (z : ℤ). to_z w64 (of_z w64 z)) start ∙ back64 in_reach (lit< tt) in
    let level = on_the_baseline e.metrics row.frame e.context.style.display (font e) root c.requires.root in
    let y = ap (λ (z : ℤ). to_z w64 (of_z w64 z)) level ∙ sym level in
    let offsets = c.in_ok-offsets.ensures {u = tt} ∙ (λ i. along e row (x i) (y i)) in
    let width = back64 c.requires.within.frame.width (lit< tt) in
    let marks = c.in_ok-marks.ensures {u = tt} ∙ (λ i. map mark_reached (root_marks e (width i) root)) in
    let made = c.outcome.ensures ∙ (λ i. outcome e root.frame (offsets i) (marks i)) in
    let exact = along e row (turned rtl root.frame.width row.frame.width root.base.x) root.base.y in
    let known = subst (IsOutcome (outcome e root.frame exact (root_marks e row.frame.width root))) (sym made)
    (marks_told e root.frame exact (root_marks e row.frame.width root)) in
    subst (λ (r : Row). IsOutcome (outcome e root.frame (along e r (turned rtl root.frame.width r.frame.width root.base.x) root.base.y) (root_marks e r.frame.width root)) c.outcome.result)
    c.requires.row known
