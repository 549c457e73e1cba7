-- Worked lines: the definitions compute them, and a wrong one is refused at its line.
use Rattle.std.proofs.Common.{◌≡◌, ℕ, ℤ, pos, negsuc, List, [], ◌∷◌, ◌++◌, codes, None, refl}
use Rattle.std.specs.Prelude.{⊤}
use Rattle.std.specs.Fmt.{digits}
use Rattle.fixed_units.specs.declared.boxes.MathBox.{MathBox}
use Rattle.op_dictionary.specs.declared.operator.Axis.TheVariants.{Block, Inline}
use Rattle.font_metrics.specs.Metrics.{MetricsValue, NamedGlyph, name_at}
use Rattle.font_metrics.specs.Tables.{no_tables}
use Rattle.font_metrics.specs.declared.glyph.GlyphId.{GlyphId}
use Rattle.font_metrics.specs.declared.mark.Mark.TheVariants.{Glyph, Rule, Built}
use Rattle.box_writer.specs.Items.{moved}
use Rattle.box_writer.specs.Lines.{box_line, glyph_line, rule_line, built_line, text_of}
use Rattle.box_writer.specs.declared.placed.PlacedItem.{PlacedItem}
use Rattle.box_writer.specs.declared.placed.PlacedItem.TheVariants.{Frame, Drawn}

-- what the definitions are computed by, from literals
unfoldable on_literals : ⊤
unfolding digits name_at box_line glyph_line rule_line built_line
on_literals = tt

-- a font of two glyphs, whose measures no line tells
abbrev glyph_named : List ℕ → NamedGlyph
glyph_named name =
    record { name = name; glyph = record { advance = pos 0; ink_ascent = pos 0; ink_descent = pos 0; italic = pos 0; accent = None } }

abbrev font : MetricsValue
font = record {
  version = 1;
  upem = 1024;
  line_ascent = 900;
  line_descent = 300;
  x_height = 512;
  overlap = None;
  constants = [];
  glyphs = glyph_named (codes "one") ∷ glyph_named (codes "parenleft") ∷ [];
  characters = [];
  tables = no_tables;
  operators = [];
}

abbrev one : GlyphId
one = record { 0 = 0 }

abbrev parenleft : GlyphId
parenleft = record { 0 = 1 }

abbrev frame : ℕ → ℕ → ℕ → ℕ → ℤ → MathBox
frame width ascent descent ink_ascent ink_descent = record {
  width = pos width;
  ascent = pos ascent;
  descent = pos descent;
  ink_ascent = pos ink_ascent;
  ink_descent = ink_descent;
  italic = pos 7;
  accent = pos 7;
}

abbrev box_at : ℕ → List ℕ → ℤ → ℤ → MathBox → PlacedItem
box_at id name x y frame = Frame (record { id = record { 0 = id }; name = name; x = x; y = y; frame = frame })

-- one over one: the box of the fraction, its rule, and then each number with its glyph
one_over_one : text_of font (
    box_at 1 (codes "math") (pos 0) (pos 0) (frame 8192 17200 9200 14560 (pos 5600))
    ∷ box_at 2 (codes "mfrac") (pos 0) (pos 0) (frame 8192 17200 9200 14560 (pos 5600))
    ∷ Drawn (Rule (pos 1024) (negsuc 4415) (pos 6144) (pos 640))
    ∷ box_at 3 (codes "mn") (pos 1024) (negsuc 6399) (frame 6144 10800 3600 8160 (pos 0))
    ∷ Drawn (Glyph (pos 1024) (negsuc 6399) (pos 12288) one)
    ∷ box_at 4 (codes "mn") (pos 1024) (pos 5600) (frame 6144 10800 3600 8160 (pos 0))
    ∷ Drawn (Glyph (pos 1024) (pos 5600) (pos 12288) one)
    ∷ []
    )
    ≡ codes "box 1 math 0 0 8192 17200 9200 14560 5600\n"
    ++ codes "box 2 mfrac 0 0 8192 17200 9200 14560 5600\n"
    ++ codes "rule 1024 -4416 6144 640\n"
    ++ codes "box 3 mn 1024 -6400 6144 10800 3600 8160 0\n"
    ++ codes "glyph 1024 -6400 12288 one\n"
    ++ codes "box 4 mn 1024 5600 6144 10800 3600 8160 0\n"
    ++ codes "glyph 1024 5600 12288 one\n"
unfolding on_literals
one_over_one = refl

-- a built parenthesis
built_parenthesis : text_of font (Drawn (Built (pos 0) (pos 8193) (pos 16384) Block parenleft (pos 2) (pos 2474)) ∷ [])
    ≡ codes "built 0 8193 16384 block parenleft 2 2474\n"
unfolding on_literals
built_parenthesis = refl

built_to_the_side : text_of font (Drawn (Built (negsuc 0) (pos 0) (pos 16384) Inline one (pos 0) (pos 0)) ∷ [])
    ≡ codes "built -1 0 16384 inline one 0 0\n"
unfolding on_literals
built_to_the_side = refl

-- nothing is written of no items
empty_page : text_of font [] ≡ []
empty_page = refl

-- a mark's place counts from that of its element; its size and its repeats stay
moved_rule : moved (pos 1024) (negsuc 99) (Rule (pos 6) (negsuc 4315) (pos 6144) (pos 640))
    ≡ Rule (pos 1030) (negsuc 4415) (pos 6144) (pos 640)
moved_rule = refl

moved_built : moved (pos 7680) (pos 0) (Built (pos 0) (pos 8193) (pos 16384) Block parenleft (pos 2) (pos 2474))
    ≡ Built (pos 7680) (pos 8193) (pos 16384) Block parenleft (pos 2) (pos 2474)
moved_built = refl
