use Rattle.std.proofs.Common.{◌≡◌, ◌++◌, map, take, flat_map}
use Rattle.font_metrics.specs.declared.table.Table.TheVariants.{Parts}
use Rattle.metrics_file.specs.Print.{entry_words, line_text}
use Rattle.metrics_file.proofs.print.print_parts.Given as goal

abbrev pub invariant-loop-part : goal.invariant-loop-part
invariant-loop-part l =
    l.lines ≡ l.fn.lines ++ flat_map line_text
    (map (entry_words (Parts l.fn.axis) l.fn.metrics.glyphs l.fn.base.0) (take l.part-index l.part-items))
