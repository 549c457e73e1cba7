-- Worked figures with the constants of the sample metrics: the definitions compute them, and a wrong
-- one is refused at its line.
use Rattle.std.proofs.Common.{◌≡◌, refl, [], ◌∷◌, true, false, Some, ℤ, pos, neg_ℤ}
use Rattle.fixed_units.specs.Boxes.{raised, joined, empty_box}
use Rattle.fixed_units.specs.Numbers.{rounded, halved}
use Rattle.fixed_units.specs.Sums.{sum_to, list_to}
use Rattle.fixed_units.specs.declared.boxes.MathBox.{MathBox}
use Rattle.font_metrics.specs.Metrics.{MetricsValue, scale_of, constant_of}
use Rattle.font_metrics.specs.Tables.{no_tables}
use Rattle.multiscripts.specs.Along.{base_lean_of, sub_start_of, sup_start_of, room_of, lean_at, ahead_of, behind_of, room_x_of}
use Rattle.multiscripts.specs.Heights.{larger_of}
use Rattle.multiscripts.specs.Laws.{behind}
use Rattle.multiscripts.specs.Placing.{multi_of}
use Rattle.multiscripts.specs.declared.parts.Pair.{Pair}
use Rattle.scripts.specs.Beside.{spot}
use Rattle.scripts.specs.Lengths.{sub_lengths_of, sup_lengths_of, pair_lengths_of}
use Rattle.scripts.specs.Shifts.{sub_shift_of, sup_shift_of, lack_of, rise_of, moved_apart_of, pair_shifts_of}

-- 1024 design units to the em; the constants of scripts
abbrev sample : MetricsValue
sample = record {
  version = 1;
  upem = 1024;
  line_ascent = 900;
  line_descent = 300;
  x_height = 512;
  overlap = Some 50;
  constants = (8, pos 160) ∷ (9, pos 300) ∷ (10, pos 100) ∷ (11, pos 360) ∷ (12, pos 300) ∷ (13, pos 120) ∷ (14, pos 380)
      ∷ (15, pos 200) ∷ (16, pos 400) ∷ (17, pos 50) ∷ [];
  glyphs = [];
  characters = [];
  tables = no_tables;
  operators = [];
}

abbrev box : ℤ → ℤ → ℤ → ℤ → ℤ → MathBox
box width ascent descent ink_ascent ink_descent = record {
  width = width;
  ascent = ascent;
  descent = descent;
  ink_ascent = ink_ascent;
  ink_descent = ink_descent;
  italic = pos 0;
  accent = halved width;
}

-- the digit 1 at 12 px, x at 16 px, and an integral sign of display size, which leans by 4800
abbrev one : MathBox
one = box (pos 6144) (pos 10800) (pos 3600) (pos 8160) (pos 0)

abbrev letter : MathBox
letter = box (pos 9280) (pos 14400) (pos 4800) (pos 7168) (pos 128)

abbrev integral : MathBox
integral = record (box (pos 14400) (pos 22400) (pos 14208) (pos 22400) (pos 14208)) { italic = pos 4800 }

abbrev before : MathBox → MathBox → Pair
before sub sup = record { sub = sub; sup = sup; before = true }

-- a subscript behind the letter and a superscript before it: alone, the first pair is moved by 4960 and
-- 6400, the second by 2560 and 5760
multi-around_letter : multi_of sample letter false false (behind one empty_box ∷ before empty_box one ∷ []) (pos 16384) ≡ record {
  frame = record {
    width = pos 23168;
    ascent = pos 17200;
    descent = pos 8560;
    ink_ascent = pos 14560;
    ink_descent = pos 4960;
    italic = pos 0;
    accent = pos 11584;
  };
  base = spot (pos 6944) (pos 0);
  subs = spot (pos 16224) (pos 4960) ∷ spot (pos 6944) (pos 4960) ∷ [];
  sups = spot (pos 16224) (neg_ℤ (pos 6400)) ∷ spot (pos 800) (neg_ℤ (pos 6400)) ∷ [];
}
unfolding ahead_of behind_of lean_at base_lean_of sub_start_of sup_start_of room_of room_x_of larger_of pair_shifts_of moved_apart_of lack_of rise_of sub_shift_of sup_shift_of sub_lengths_of sup_lengths_of pair_lengths_of raised joined sum_to list_to constant_of scale_of rounded halved
multi-around_letter = refl

-- of two pairs behind an integral sign the second one doesn't stand under its lean
multi-behind_integral : multi_of sample integral true false (behind one one ∷ behind one one ∷ []) (pos 16384) ≡ record {
  frame = record {
    width = pos 28288;
    ascent = pos 27120;
    descent = pos 19408;
    ink_ascent = pos 24480;
    ink_descent = pos 15808;
    italic = pos 0;
    accent = pos 14144;
  };
  base = spot (pos 0) (pos 0);
  subs = spot (pos 9600) (pos 15808) ∷ spot (pos 21344) (pos 15808) ∷ [];
  sups = spot (pos 14400) (neg_ℤ (pos 16320)) ∷ spot (pos 21344) (neg_ℤ (pos 16320)) ∷ [];
}
unfolding ahead_of behind_of lean_at base_lean_of sub_start_of sup_start_of room_of room_x_of larger_of pair_shifts_of moved_apart_of lack_of rise_of sub_shift_of sup_shift_of sub_lengths_of sup_lengths_of pair_lengths_of raised joined sum_to list_to constant_of scale_of rounded halved
multi-behind_integral = refl

-- prescripts between the other pairs in their list take nothing from the lean of the first one; they
-- end together
multi-interleaved : multi_of sample (record letter { italic = pos 500 }) false false (behind one one ∷ before one letter ∷ behind letter one ∷ []) (pos 16384) ≡ record {
  frame = record {
    width = pos 36884;
    ascent = pos 20928;
    descent = pos 9760;
    ink_ascent = pos 14688;
    ink_descent = pos 5088;
    italic = pos 0;
    accent = pos 18442;
  };
  base = spot (pos 10080) (pos 0);
  subs = spot (pos 19360) (pos 4960) ∷ spot (pos 3936) (pos 4960) ∷ spot (pos 26804) (pos 4960) ∷ [];
  sups = spot (pos 19860) (neg_ℤ (pos 6528)) ∷ spot (pos 800) (neg_ℤ (pos 6528)) ∷ spot (pos 26804) (neg_ℤ (pos 6528)) ∷ [];
}
unfolding ahead_of behind_of lean_at base_lean_of sub_start_of sup_start_of room_of room_x_of larger_of pair_shifts_of moved_apart_of lack_of rise_of sub_shift_of sup_shift_of sub_lengths_of sup_lengths_of pair_lengths_of raised joined sum_to list_to constant_of scale_of rounded halved
multi-interleaved = refl
