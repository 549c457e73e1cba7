use Rattle.std.proofs.Common.{◌∙◌, ap}
use Rattle.font_metrics.specs.Metrics.{place_of_name}
use Rattle.metrics_file.proofs.NamedGlyphs.{key_place}
use Rattle.metrics_file.proofs.named_glyphs.NamedGlyphs.place.Goals as goal

pub returns : goal.returns
returns c =
    c.get_index_of.ensures.index ∙ key_place c.args.name.now c.self.inside.measures.entries
    ∙ ap (λ l. place_of_name l c.args.name.now) c.self.view_is
