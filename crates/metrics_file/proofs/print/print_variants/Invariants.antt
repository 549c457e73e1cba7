use Rattle.std.proofs.Common.{◌≡◌, ◌++◌, map, take, flat_map}
use Rattle.font_metrics.specs.declared.table.Table.TheVariants.{Variants}
use Rattle.metrics_file.specs.Print.{entry_words, line_text}
use Rattle.metrics_file.proofs.print.print_variants.Given as goal

abbrev pub invariant-loop-variant : goal.invariant-loop-variant
invariant-loop-variant l =
    l.lines ≡ l.fn.lines ++ flat_map line_text
    (map (entry_words (Variants l.fn.axis) l.fn.metrics.glyphs l.fn.base.0) (take l.variant-index l.variant-items))
