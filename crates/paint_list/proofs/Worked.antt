-- Worked pieces: the stretched parenthesis of the sample metrics, with each extender twice.
use Rattle.std.proofs.Common.{◌≡◌, refl, ℕ, ℤ, pos, negsuc, List, [], ◌∷◌, codes, Option, None, Bool, true, false}
use Rattle.op_dictionary.specs.declared.operator.Axis.TheVariants.{Block}
use Rattle.font_metrics.specs.Metrics.{MetricsValue, NamedGlyph, glyph_at, name_at, parts_of, scale_of}
use Rattle.font_metrics.specs.declared.growth.Part.{Part}
use Rattle.fixed_units.specs.Numbers.{rounded}
use Rattle.paint_list.specs.Paints.{painted}
use Rattle.paint_list.specs.Pieces.{built_paints, each_behind, piece_at, pieces_of, start_behind, step_of}
use Rattle.paint_list.specs.Svg.{head_line, paint_text, svg_of}
use Rattle.paint_list.specs.declared.paints.Paint.{Paint}
use Rattle.paint_list.specs.declared.paints.Paint.TheVariants.{Glyph, Rule}
use Rattle.paint_list.specs.declared.pieces.Assembly.{Assembly}

abbrev part : ℕ → Bool → ℕ → ℕ → ℕ → Part
part glyph extender start end full = record {
  glyph = record { 0 = glyph };
  extender = extender;
  start = pos start;
  end = pos end;
  full = pos full;
}

abbrev parts : List Part
parts = part 1 false 0 200 600 ∷ part 2 true 200 200 400 ∷ part 3 false 200 0 600 ∷ []

-- each fixed part once, the extender twice in its place
in_place : pieces_of (pos 2) parts ≡ part 1 false 0 200 600 ∷ part 2 true 200 200 400 ∷ part 2 true 200 200 400 ∷ part 3 false 200 0 600 ∷ []
unfolding pieces_of
in_place = refl

-- no repeats leave the fixed parts
without_extenders : pieces_of (pos 0) parts ≡ part 1 false 0 200 600 ∷ part 3 false 200 0 600 ∷ []
unfolding pieces_of
without_extenders = refl
