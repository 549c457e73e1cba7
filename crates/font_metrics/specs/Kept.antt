-- What is kept of a glyph, and what it stands for; and what lines have given, over another table
-- of glyphs.
use Rattle.std.specs.Prelude.{ℕ, pos, List}
use Rattle.font_metrics.specs.declared.given.Given.{Given}
use Rattle.font_metrics.specs.declared.glyph.Glyph.{Glyph}
use Rattle.font_metrics.specs.declared.glyph.Measures.{Measures}
use Rattle.font_metrics.specs.Metrics.{NamedGlyph}

-- a glyph by the measures that are kept of it
abbrev pub glyph_of_measures : Measures → Glyph
glyph_of_measures m = record {
  advance = pos m.advance;
  ink_ascent = m.ink_ascent;
  ink_descent = m.ink_descent;
  italic = m.italic;
  accent = m.accent;
}

abbrev pub named_glyph : List ℕ → Measures → NamedGlyph
named_glyph name m = record { name = name; glyph = glyph_of_measures m }

-- what lines have given, with the glyphs in another table
abbrev pub with_glyphs : {G H : Type 0} → Given G → H → Given H
with_glyphs given glyphs = record {
  version = given.version;
  upem = given.upem;
  line = given.line;
  x_height = given.x_height;
  overlap = given.overlap;
  constants = given.constants;
  glyphs = glyphs;
  characters = given.characters;
  tables = given.tables;
  operators = given.operators;
}
