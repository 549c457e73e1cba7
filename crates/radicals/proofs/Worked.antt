-- Worked figures with the sample's constants and its radical sign: the definitions compute them, and
-- a wrong one is refused at its line.
use Rattle.std.proofs.Common.{◌≡◌, refl, [], ◌∷◌, false, Some, None, pos, neg_ℤ}
use Rattle.fixed_units.specs.Boxes.{raised, joined}
use Rattle.fixed_units.specs.Numbers.{rounded, halved}
use Rattle.fixed_units.specs.declared.boxes.MathBox.{MathBox}
use Rattle.font_metrics.specs.Constants.{place_of_constant}
use Rattle.font_metrics.specs.Metrics.{MetricsValue, scale_of, constant_of, percent_of, glyph_at, place_of_letter}
use Rattle.font_metrics.specs.Tables.{no_tables}
use Rattle.font_metrics.specs.declared.constants.ConstName.TheVariants.{RadicalVerticalGap, RadicalRuleThickness, RadicalExtraAscender, RadicalKernBeforeDegree, RadicalKernAfterDegree, RadicalDegreeBottomRaisePercent}
use Rattle.font_metrics.specs.declared.mark.Mark.TheVariants.{Glyph, Rule}
use Rattle.glyph_assembly.specs.Glyphs.{glyph_frame, glyph_reach}
use Rattle.glyph_assembly.specs.Shaping.{shaped_of}
use Rattle.radicals.specs.Equation.{top_of, root_frame_of, root_start_of, share_of, index_height_of}
use Rattle.radicals.specs.Lengths.{root_lengths_of, index_lengths_of}
use Rattle.radicals.specs.Placing.{spot, covered_of, root_of, square_root_of, with_index_of, root_with_index_of}

-- 1024 design units to the em
abbrev sample : MetricsValue
sample = record {
  version = 1;
  upem = 1024;
  line_ascent = 900;
  line_descent = 300;
  x_height = 512;
  overlap = Some 50;
  constants = (place_of_constant RadicalVerticalGap, pos 60)
      ∷ (place_of_constant RadicalRuleThickness, pos 40)
      ∷ (place_of_constant RadicalExtraAscender, pos 40)
      ∷ (place_of_constant RadicalKernBeforeDegree, pos 100)
      ∷ (place_of_constant RadicalKernAfterDegree, neg_ℤ (pos 600))
      ∷ (place_of_constant RadicalDegreeBottomRaisePercent, pos 60)
      ∷ [];
  glyphs = record {
    name = [];
    glyph = record { advance = pos 820; ink_ascent = pos 800; ink_descent = pos 224; italic = pos 0; accent = None };
  } ∷ [];
  characters = (0x221A, 0) ∷ [];
  tables = no_tables;
  operators = [];
}

-- the digit 1 at 16 px, and at 8 px
abbrev one : MathBox
one = record {
  width = pos 8192;
  ascent = pos 14400;
  descent = pos 4800;
  ink_ascent = pos 10880;
  ink_descent = pos 0;
  italic = pos 0;
  accent = pos 4096;
}

abbrev small_one : MathBox
small_one = record {
  width = pos 4096;
  ascent = pos 7200;
  descent = pos 2400;
  ink_ascent = pos 5440;
  ink_descent = pos 0;
  italic = pos 0;
  accent = pos 2048;
}

-- 10880 of ink, 960 of gap and 640 of rule: 12480, which the sign's 16384 reaches, so that 3904 of it
-- hang below the baseline
pub square_root-one : square_root_of sample one false (pos 16384) ≡ record {
  frame = record {
    width = pos 21312;
    ascent = pos 14400;
    descent = pos 4800;
    ink_ascent = pos 12480;
    ink_descent = pos 3904;
    italic = pos 0;
    accent = pos 10656;
  };
  surd = Glyph (pos 0) (pos 320) (pos 16384) (record { 0 = 0 });
  index = spot (pos 0) (pos 0);
  base = spot (pos 13120) (pos 0);
  rule = Rule (pos 13120) (neg_ℤ (pos 12480)) (pos 8192) (pos 640);
}
unfolding root_of covered_of root_frame_of top_of root_lengths_of shaped_of glyph_frame glyph_reach place_of_letter constant_of scale_of glyph_at rounded halved
square_root-one = refl

-- 60 percent of 16384 above the foot, and the kern behind takes back the whole width, not 9600
pub root_with_index-one : root_with_index_of sample one small_one false (pos 16384) ≡ record {
  frame = record {
    width = pos 22912;
    ascent = pos 14400;
    descent = pos 4800;
    ink_ascent = pos 12480;
    ink_descent = pos 3904;
    italic = pos 0;
    accent = pos 11456;
  };
  surd = Glyph (pos 1600) (pos 320) (pos 16384) (record { 0 = 0 });
  index = spot (pos 1600) (neg_ℤ (pos 5926));
  base = spot (pos 14720) (pos 0);
  rule = Rule (pos 14720) (neg_ℤ (pos 12480)) (pos 8192) (pos 640);
}
unfolding root_with_index_of with_index_of root_of covered_of root_frame_of top_of root_start_of index_height_of share_of root_lengths_of index_lengths_of raised joined shaped_of glyph_frame glyph_reach place_of_letter constant_of percent_of scale_of glyph_at rounded halved
root_with_index-one = refl

-- a kern ahead that is below 0 counts as 0
pub start-negative_kern : root_start_of (record { kern_before = neg_ℤ (pos 5); kern_after = pos 0; raise = pos 60 }) small_one ≡ pos 4096
unfolding root_start_of
start-negative_kern = refl
