use Rattle.std.proofs.Common.{◌≡◌, ◌++◌, map, take, flat_map}
use Rattle.metrics_file.specs.Print.{glyph_words, line_text}
use Rattle.metrics_file.proofs.print.print_glyphs.Given as goal

abbrev pub invariant-loop-place : goal.invariant-loop-place
invariant-loop-place l =
    l.lines ≡ l.fn.lines ++ flat_map line_text (map glyph_words (take l.place l.fn.glyphs))
