use Rattle.std.proofs.Common.{◌≡◌, ◌∙◌, ap, sym, subst, rules, to_z, of_z, w64, List, Ok}
use Rattle.box_writer.specs.declared.placed.PlacedItem.{PlacedItem}
use Rattle.hit_test.specs.Elements.{inside_in}
use Rattle.hit_test.specs.Hits.{ComesFirst, boxes_of, hit_of}
use Rattle.page_facts.proofs.Pages.{order_law}
use Rattle.queries.specs.Lines.{hit_line}
use Rattle.queries.specs.Queries.{flow_of}
use Rattle.queries.proofs.answering.element_at.Goals as goal

pub returns-clause-told : goal.returns-clause-told
returns-clause-told c =
    let s = c.args.session.now.held in
    let inside = inside_in (flow_of s) in
    let order = subst (λ (items : List PlacedItem). ComesFirst inside (boxes_of items)) (sym c.requires) (order_law s.metrics s.tree c.has_page.ensures) in
    let x : to_z w64 (of_z w64 c.args.x) ≡ c.args.x = search rules in
    let y : to_z w64 (of_z w64 c.args.y) ≡ c.args.y = search rules in
    let is = c.hit.ensures.deepest inside order ∙ (λ i. hit_of inside (x i) (y i) (c.requires i)) in
    ap (λ id. Ok (hit_line id)) (sym is)
