use Rattle.placement.proofs.Glyphs.{glyph_law}
use Rattle.placement.proofs.laws.what_is_placed_names_glyphs_of_the_font.Goals as goal

pub returns : goal.returns
returns c = glyph_law
