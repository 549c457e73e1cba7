-- Worked figures: the definitions compute them, and a wrong one is refused at its line.
--
-- A row of a table with one cell, 64309 wide over two columns, and what it could draw: a glyph, a rule and a built glyph.
use Rattle.std.proofs.Common.{◌≡◌, refl, [], ◌∷◌, pos, neg_ℤ}
use Rattle.op_dictionary.specs.declared.operator.Axis.TheVariants.{Inline}
use Rattle.font_metrics.specs.declared.mark.Mark.{Mark}
use Rattle.font_metrics.specs.declared.mark.Mark.TheVariants.{Built, Glyph, Rule}
use Rattle.layout_model.specs.declared.outcome.Answer.{Answer}
use Rattle.layout_model.specs.declared.outcome.Outcome.{Outcome}
use Rattle.outcome_cells.specs.Cells.{in_cells, mark_numbers, outcome_cells}
use Rattle.outcome_cells.specs.Reading.{built_in, frame_in, glyph_in, number_in, rule_in}

abbrev answer : Answer
answer = record {
  frame = record { width = pos 64309; ascent = pos 21888; descent = pos 13696; ink_ascent = pos 4096; ink_descent = pos 0; italic = pos 0; accent = pos 32154 };
  before = pos 0;
  after = pos 0;
  cells = pos 64309 ∷ [];
  spans = record { columns = 2; rows = 1; ascent = pos 18496; descent = pos 8896 } ∷ [];
}

abbrev glyph : Mark
glyph = Glyph (pos 5427) (neg_ℤ (pos 320)) (pos 16384) (record { 0 = 17 })

abbrev rule : Mark
rule = Rule (pos 0) (neg_ℤ (pos 6400)) (pos 64309) (pos 640)

abbrev built : Mark
built = Built (pos 0) (pos 4096) (pos 16384) Inline (record { 0 = 40 }) (pos 3) (pos 1024)

abbrev row : Outcome
row = record { answer = answer; offsets = record { kid = 0; x = pos 0; y = neg_ℤ (pos 8) } ∷ []; marks = glyph ∷ rule ∷ built ∷ [] }

cells-row : outcome_cells row ≡ in_cells (
    pos 64309 ∷ pos 21888 ∷ pos 13696 ∷ pos 4096 ∷ pos 0 ∷ pos 0 ∷ pos 32154 ∷ pos 0 ∷ pos 0
    ∷ pos 1 ∷ pos 64309
    ∷ pos 1 ∷ pos 2 ∷ pos 1 ∷ pos 18496 ∷ pos 8896
    ∷ pos 1 ∷ pos 0 ∷ pos 0 ∷ neg_ℤ (pos 8)
    ∷ pos 3
    ∷ pos 0 ∷ pos 5427 ∷ neg_ℤ (pos 320) ∷ pos 16384 ∷ pos 17
    ∷ pos 1 ∷ pos 0 ∷ neg_ℤ (pos 6400) ∷ pos 64309 ∷ pos 640
    ∷ pos 2 ∷ pos 0 ∷ pos 4096 ∷ pos 16384 ∷ pos 1 ∷ pos 40 ∷ pos 3 ∷ pos 1024 ∷ [])
cells-row = refl

-- ---- and back

frame-row : frame_in (outcome_cells row) ≡ answer.frame
frame-row = refl

-- how many cells the row of the table has
count-row : number_in (outcome_cells row) 9 ≡ pos 1
count-row = refl

glyph-again : glyph_in (in_cells (mark_numbers glyph)) ≡ glyph
glyph-again = refl

rule-again : rule_in (in_cells (mark_numbers rule)) ≡ rule
rule-again = refl

built-again : built_in (in_cells (mark_numbers built)) ≡ built
built-again = refl
