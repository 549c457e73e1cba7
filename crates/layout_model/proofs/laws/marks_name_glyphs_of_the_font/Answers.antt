use Rattle.layout_model.proofs.LaidTrees.{drawn_law}
use Rattle.layout_model.proofs.laws.marks_name_glyphs_of_the_font.Goals as goal

pub returns : goal.returns
returns c = drawn_law
