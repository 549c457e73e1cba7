use Rattle.std.proofs.Common.{◌∙◌, ◌++◌, ap, refl, List, length, map, flat_map}
use Rattle.std.proofs.lemmas.List.{take_all}
use Rattle.std.proofs.lemmas.Option.{slice_get_read}
use Rattle.font_metrics.specs.declared.kern.Kern.{Kern}
use Rattle.font_metrics.specs.Metrics.{name_at, kerns_of}
use Rattle.font_metrics.specs.declared.table.Table.TheVariants.{Kerns}
use Rattle.metrics_file.specs.Print.{entry_words, line_text}
use Rattle.metrics_file.proofs.Printing.{front-more}
use Rattle.metrics_file.proofs.print.print_kerns.Goals as goal

pub loop-kern-preserved : goal.loop-kern-preserved
unfolding name_at
loop-kern-preserved c =
    let items = c.kerns-kern-items.result.now in
    let added = rw (c.as_slice.ensures.value, c.in_ok-words.ensures, c.name-base_name.ensures) at c.in_ok-add_line.ensures in
    front-more (entry_words (Kerns c.args.corner) c.args.metrics.now.glyphs c.args.base.0) items c.loop-kern.kern-index c.kern-item.result _ _ _
    (slice_get_read items (length items) c.loop-kern.kern-index c.kern-item.result refl c.loop-kern-test.true c.kern-item.is) c.loop-kern.invariant added

pub returns : goal.returns
unfolding kerns_of
returns c =
    let items = c.kerns-kern-items.result.now in
    c.loop-kern.invariant
    ∙ ap (λ (items : List Kern). c.args.lines.now ++ flat_map line_text (map (entry_words (Kerns c.args.corner) c.args.metrics.now.glyphs c.args.base.0) items))
    (take_all c.loop-kern.kern-index items c.loop-kern-test.false ∙ c.kerns-kern-items.ensures.value)
