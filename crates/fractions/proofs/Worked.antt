-- Worked figures with the constants of the sample metrics: the definitions compute them, and a wrong
-- one is refused at its line.
use Rattle.std.proofs.Common.{◌≡◌, refl, [], ◌∷◌, true, false, Some, pos, neg_ℤ}
use Rattle.fixed_units.specs.Boxes.{raised, joined}
use Rattle.fixed_units.specs.Numbers.{rounded, halved}
use Rattle.fixed_units.specs.declared.boxes.MathBox.{MathBox}
use Rattle.font_metrics.specs.Metrics.{MetricsValue, scale_of, constant_of}
use Rattle.font_metrics.specs.Tables.{no_tables}
use Rattle.font_metrics.specs.declared.mark.Mark.TheVariants.{Rule}
use Rattle.fractions.specs.Lengths.{rule_lengths_of, stack_lengths_of}
use Rattle.fractions.specs.Equation.{clear_shift_of, rule_shifts_of, lack_of, stack_shifts_of}
use Rattle.fractions.specs.Placing.{spot, centred_of, placed_of, lower_of, with_rule_of, fraction_of}

-- 1024 design units to the em. The axis is at 256; a numerator is shifted by 400, in display style
-- by 700; a denominator by 350 and 700; their gaps are 64 and 100. In a stack the shifts are 300
-- and the gap is 200.
abbrev sample : MetricsValue
sample = record {
  version = 1;
  upem = 1024;
  line_ascent = 900;
  line_descent = 300;
  x_height = 512;
  overlap = Some 50;
  constants = (5, pos 256) ∷ (22, pos 300) ∷ (24, pos 300) ∷ (26, pos 200) ∷ (32, pos 400) ∷ (33, pos 700) ∷ (34, pos 350)
      ∷ (35, pos 700) ∷ (36, pos 64) ∷ (37, pos 100) ∷ (38, pos 40) ∷ (39, pos 64) ∷ (40, pos 100) ∷ [];
  glyphs = [];
  characters = [];
  tables = no_tables;
  operators = [];
}

-- the digit 1 at 12 px
abbrev one : MathBox
one = record {
  width = pos 6144;
  ascent = pos 10800;
  descent = pos 3600;
  ink_ascent = pos 8160;
  ink_descent = pos 0;
  italic = pos 0;
  accent = pos 3072;
}

-- a space of 8.001 px above the baseline
abbrev space : MathBox
space = record {
  width = pos 0;
  ascent = pos 8193;
  descent = pos 0;
  ink_ascent = pos 8193;
  ink_descent = pos 0;
  italic = pos 0;
  accent = pos 0;
}

-- the larger of 6400 and 5440, and of 5600 and 5408
pub rule_shifts-one_over_one : rule_shifts_of (rule_lengths_of sample (pos 16384) false) one one (pos 640) ≡ record { up = pos 6400; down = pos 5600 }
unfolding rule_shifts_of clear_shift_of rule_lengths_of constant_of scale_of rounded halved
rule_shifts-one_over_one = refl

pub numerator-one_over_one : clear_shift_of (pos 0) (pos 1024) (pos 0) (pos 4416) ≡ pos 5440
unfolding clear_shift_of
numerator-one_over_one = refl

pub denominator-one_over_one : clear_shift_of (pos 0) (pos 1024) (pos 8160) (neg_ℤ (pos 3776)) ≡ pos 5408
unfolding clear_shift_of
denominator-one_over_one = refl

-- 11200 in display style: then the gaps don't count
pub rule_shifts-display : rule_shifts_of (rule_lengths_of sample (pos 16384) true) one one (pos 640) ≡ record { up = pos 11200; down = pos 11200 }
unfolding rule_shifts_of clear_shift_of rule_lengths_of constant_of scale_of rounded halved
rule_shifts-display = refl

pub fraction-one_over_one : fraction_of sample one one (pos 640) false (pos 16384) ≡ record {
  frame = record {
    width = pos 8192;
    ascent = pos 17200;
    descent = pos 9200;
    ink_ascent = pos 14560;
    ink_descent = pos 5600;
    italic = pos 0;
    accent = pos 4096;
  };
  top = spot (pos 1024) (neg_ℤ (pos 6400));
  bottom = spot (pos 1024) (pos 5600);
  rule = Some (Rule (pos 1024) (neg_ℤ (pos 4416)) (pos 6144) (pos 640));
}
unfolding with_rule_of lower_of placed_of centred_of raised joined rule_shifts_of clear_shift_of rule_lengths_of constant_of scale_of rounded halved
fraction-one_over_one = refl

-- without a rule over that space: the gap is 1407 at the usual shifts, and 3200 at the least, so
-- 1793 are lacking; the upper part makes up for 896 of them, the lower one for 897
pub lack-one_over_space : lack_of (stack_lengths_of sample (pos 16384) false) one space ≡ pos 1793
unfolding lack_of stack_lengths_of constant_of scale_of rounded
lack-one_over_space = refl

pub stack_shifts-one_over_space : stack_shifts_of (stack_lengths_of sample (pos 16384) false) one space ≡ record { up = pos 5696; down = pos 5697 }
unfolding stack_shifts_of lack_of stack_lengths_of constant_of scale_of rounded halved
stack_shifts-one_over_space = refl

-- a thickness below 0 counts as 0
pub fraction-negative_thickness : fraction_of sample one space (neg_ℤ (pos 5)) false (pos 16384) ≡ fraction_of sample one space (pos 0) false (pos 16384)
fraction-negative_thickness = refl

-- ink that is high above its baseline lets the parts come no closer than their usual shifts
pub clear_shift-negative_ink : clear_shift_of (pos 6400) (pos 1024) (neg_ℤ (pos 20000)) (pos 4416) ≡ pos 6400
unfolding clear_shift_of
clear_shift-negative_ink = refl

-- the upper edge of a rule of odd thickness lies the odd unit nearer to the numerator
pub lower-odd_thickness : lower_of (pos 4096) (pos 641) ≡ pos 3776
unfolding lower_of halved
lower-odd_thickness = refl
