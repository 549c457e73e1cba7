use Rattle.std.proofs.Common.{◌∙◌, ◌≡◌, ap, ◌++◌, ◌∷◌, [], string_bytes, None}
use Rattle.font_metrics.specs.Kept.{glyph_of_measures}
use Rattle.font_metrics.specs.Metrics.{place_of_name}
use Rattle.metrics_file.specs.NamedGlyphs.{named_glyphs}
use Rattle.metrics_file.proofs.NamedGlyphs.{named_insert}
use Rattle.metrics_file.proofs.named_glyphs.NamedGlyphs.add.Goals as goal

pub returns-clause-ok : goal.returns-clause-ok
returns-clause-ok c =
    let key = c.in_ok-name.name in
    let kept = glyph_of_measures c.args.measures in
    let same : string_bytes key ≡ c.args.name.now = c.in_ok-name.ensures.ok in
    let old = named_glyphs c.self.inside.measures.entries in
    let free : place_of_name old (string_bytes key) ≡ None =
    ap (place_of_name old) same ∙ ap (λ l. place_of_name l c.args.name.now) c.self.view_is ∙ c.requires in
    ap named_glyphs c.in_ok-insert.ensures.entries ∙ named_insert c.self.inside.measures key c.args.measures free
    ∙ ap (λ b. old ++ record { name = b; glyph = kept } ∷ []) same
    ∙ ap (λ l. l ++ record { name = c.args.name.now; glyph = kept } ∷ []) c.self.view_is
