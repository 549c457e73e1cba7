use Rattle.std.proofs.Common.{◌∙◌, ◌++◌, ap, List, length, map, flat_map}
use Rattle.std.proofs.lemmas.List.{take_all}
use Rattle.std.proofs.lemmas.Option.{slice_get-get_or}
use Rattle.font_metrics.specs.declared.growth.Part.{Part}
use Rattle.font_metrics.specs.Taken.{IsPart}
use Rattle.font_metrics.specs.Metrics.{name_at, parts_of}
use Rattle.font_metrics.specs.declared.table.Table.TheVariants.{Parts}
use Rattle.metrics_file.specs.Print.{entry_words, line_text}
use Rattle.metrics_file.proofs.Printing.{field-back, front-more}
use Rattle.metrics_file.proofs.print.print_parts.Goals as goal

pub loop-part-preserved : goal.loop-part-preserved
unfolding name_at
loop-part-preserved c =
    let items = c.assembly-part-items.result.now in
    let start =
    field-back (IsPart (length c.args.metrics.now.glyphs)) (λ part. part.start) (λ part is. is.start) items c.loop-part.part-index
    c.loop-part-test.true c.assembly-part-items.ensures.items in
    let end =
    field-back (IsPart (length c.args.metrics.now.glyphs)) (λ part. part.end) (λ part is. is.end) items c.loop-part.part-index
    c.loop-part-test.true c.assembly-part-items.ensures.items in
    let full =
    field-back (IsPart (length c.args.metrics.now.glyphs)) (λ part. part.full) (λ part is. is.full) items c.loop-part.part-index
    c.loop-part-test.true c.assembly-part-items.ensures.items in
    let added = rw (c.name-base_name.ensures, c.name.ensures, c.table_keyword-keyword.ensures, c.extender_text.ensures, start, end, full) at c.in_ok-add_line.ensures in
    front-more (entry_words (Parts c.args.axis) c.args.metrics.now.glyphs c.args.base.0) items c.loop-part.part-index _ _ _ _
    (slice_get-get_or items c.loop-part.part-index _ c.loop-part-test.true) c.loop-part.invariant added

pub returns : goal.returns
unfolding parts_of
returns c =
    let items = c.assembly-part-items.result.now in
    c.loop-part.invariant
    ∙ ap (λ (items : List Part). c.args.lines.now ++ flat_map line_text (map (entry_words (Parts c.args.axis) c.args.metrics.now.glyphs c.args.base.0) items))
    (take_all c.loop-part.part-index items c.loop-part-test.false ∙ c.assembly-part-items.ensures.value)
