use Rattle.std.proofs.Common.{◌∙◌, ap, sym, []}
use Rattle.std.specs.Option.{option_map, option_copied, unwrap_or}
use Rattle.font_metrics.specs.Metrics.{items_of}
use Rattle.font_metrics.proofs.Listed.{lookup-lists}
use Rattle.font_metrics.proofs.by_glyph.ByGlyph.items.Goals as goal

pub returns-in-None : goal.returns-in-None
returns-in-None g c =
    sym (ap (λ t. items_of t c.args.place) (sym c.self.view_is)
    ∙ ap (λ o. unwrap_or o []) (lookup-lists c.args.place c.self.inside.items.entries
    ∙ ap (option_map (λ v. v.items)) (sym c.get.ensures.value ∙ ap option_copied c.in-None.is)))

pub returns-in-Some : goal.returns-in-Some
returns-in-Some g c =
    c.as_slice.ensures.value
    ∙ sym (ap (λ t. items_of t c.args.place) (sym c.self.view_is)
    ∙ ap (λ o. unwrap_or o []) (lookup-lists c.args.place c.self.inside.items.entries
    ∙ ap (option_map (λ v. v.items)) (sym c.get.ensures.value ∙ ap option_copied c.in-Some.is)))
