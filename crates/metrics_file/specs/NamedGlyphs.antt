-- The glyphs of a file while it is read.
use Rattle.std.specs.Prelude.{List, map, String, string_bytes}
use Rattle.std.specs.declared.alloc.Global.{Global}
use Rattle.font_metrics.specs.declared.glyph.Measures.{Measures}
use Rattle.font_metrics.specs.Kept.{named_glyph}
use Rattle.font_metrics.specs.Metrics.{NamedGlyph}

-- the entries of the map of glyphs, in order
abbrev pub named_glyphs : List (String Global × Measures) → List NamedGlyph
named_glyphs entries = map (λ e. named_glyph (string_bytes e.0) e.1) entries
