use Rattle.std.proofs.Common.{◌∙◌, ◌++◌, ap, List, length, map, flat_map}
use Rattle.std.proofs.lemmas.List.{take_all}
use Rattle.std.proofs.lemmas.Option.{slice_get-get_or}
use Rattle.font_metrics.specs.declared.growth.Variant.{Variant}
use Rattle.font_metrics.specs.Taken.{IsVariant}
use Rattle.font_metrics.specs.Metrics.{name_at, variants_of}
use Rattle.font_metrics.specs.declared.table.Table.TheVariants.{Variants}
use Rattle.metrics_file.specs.Print.{entry_words, line_text}
use Rattle.metrics_file.proofs.Printing.{field-back, front-more}
use Rattle.metrics_file.proofs.print.print_variants.Goals as goal

pub loop-variant-preserved : goal.loop-variant-preserved
unfolding name_at
loop-variant-preserved c =
    let items = c.variants-variant-items.result.now in
    let measure =
    field-back (IsVariant (length c.args.metrics.now.glyphs)) (λ variant. variant.measure) (λ variant is. is.measure) items c.loop-variant.variant-index
    c.loop-variant-test.true c.variants-variant-items.ensures.items in
    let added = rw (c.name-base_name.ensures, c.name.ensures, c.table_keyword-keyword.ensures, measure) at c.in_ok-add_line.ensures in
    front-more (entry_words (Variants c.args.axis) c.args.metrics.now.glyphs c.args.base.0) items c.loop-variant.variant-index _ _ _ _
    (slice_get-get_or items c.loop-variant.variant-index _ c.loop-variant-test.true) c.loop-variant.invariant added

pub returns : goal.returns
unfolding variants_of
returns c =
    let items = c.variants-variant-items.result.now in
    c.loop-variant.invariant
    ∙ ap (λ (items : List Variant). c.args.lines.now ++ flat_map line_text (map (entry_words (Variants c.args.axis) c.args.metrics.now.glyphs c.args.base.0) items))
    (take_all c.loop-variant.variant-index items c.loop-variant-test.false ∙ c.variants-variant-items.ensures.value)
