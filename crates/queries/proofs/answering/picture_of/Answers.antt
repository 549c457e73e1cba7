use Rattle.std.proofs.Common.{◌≡◌, ◌∙◌, ◌<◌, ◌≤◌, ap, sym, subst, All, List, length, Ok, Err}
use Rattle.font_metrics.specs.Metrics.{MetricsValue}
use Rattle.fixed_units.specs.Boxes.{IsStored}
use Rattle.box_writer.specs.declared.placed.PlacedItem.{PlacedItem}
use Rattle.paint_list.specs.Paints.{IsOfFont, IsPaintable, most_paints, painted}
use Rattle.paint_list.specs.Svg.{svg_of}
use Rattle.edit_session.specs.Session.{page, root_box}
use Rattle.page_facts.proofs.Pages.{paint_law, root_law}
use Rattle.paint_list.specs.declared.paints.Paint.{Paint}
use Rattle.queries.proofs.Found.{few_painted, many_painted, paints_of_page}
use Rattle.queries.proofs.answering.picture_of.Goals as goal

pub paint-requires : goal.paint-requires
paint-requires c =
    let s = c.args.session.now.held in
    let all = paint_law s.metrics s.tree c.has_page.ensures in
    subst (λ (m : MetricsValue). All (IsPaintable m) c.args.placed.now) (sym c.metrics.ensures.exact)
    (subst (All (IsPaintable s.metrics)) (sym c.requires) all)

pub returns-in-Ok-clause-told : goal.returns-in-Ok-clause-told
returns-in-Ok-clause-told c =
    let s = c.args.session.now.held in
    let same : painted c.metrics.result.now c.args.placed.now ≡ paints_of_page s = λ i. painted (c.metrics.ensures.exact i) (c.requires i) in
    let few = subst (λ (l : List Paint). length l ≤ most_paints) same c.in-Ok.ensures.few in
    few_painted s few ∙ sym (λ i. Ok (svg_of s.metrics (c.root_box.ensures.exact i) ((c.in-Ok.ensures.exact ∙ same) i)))

pub returns-in-Ok-clause-writable : goal.returns-in-Ok-clause-writable
returns-in-Ok-clause-writable c =
    let s = c.args.session.now.held in (
      subst IsStored (sym c.root_box.ensures.exact) (root_law s.metrics s.tree c.has_page.ensures),
      subst (λ (m : MetricsValue). All (IsOfFont m) c.in-Ok.paints) c.metrics.ensures.exact c.in-Ok.ensures.glyphs,
    )

pub returns-in-Err-TooMany-clause-refused : goal.returns-in-Err-TooMany-clause-refused
returns-in-Err-TooMany-clause-refused c =
    let s = c.args.session.now.held in
    let same : painted c.metrics.result.now c.args.placed.now ≡ paints_of_page s = λ i. painted (c.metrics.ensures.exact i) (c.requires i) in
    many_painted s (subst (λ (l : List Paint). most_paints < length l) same (c.in-Err-TooMany.ensures.too_many (ap Err c.in-Err-TooMany.field-0-is)))
