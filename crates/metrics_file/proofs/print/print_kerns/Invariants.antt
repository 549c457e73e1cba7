use Rattle.std.proofs.Common.{◌≡◌, ◌++◌, map, take, flat_map}
use Rattle.font_metrics.specs.declared.table.Table.TheVariants.{Kerns}
use Rattle.metrics_file.specs.Print.{entry_words, line_text}
use Rattle.metrics_file.proofs.print.print_kerns.Given as goal

abbrev pub invariant-loop-kern : goal.invariant-loop-kern
invariant-loop-kern l =
    l.lines ≡ l.fn.lines ++ flat_map line_text
    (map (entry_words (Kerns l.fn.corner) l.fn.metrics.glyphs l.fn.base.0) (take l.kern-index l.kern-items))
