-- Worked figures with the constants of the sample metrics: the definitions compute them, and a wrong
-- one is refused at its line.
use Rattle.std.proofs.Common.{◌≡◌, refl, [], ◌∷◌, true, false, Some, None, ℤ, pos, neg_ℤ}
use Rattle.fixed_units.specs.Boxes.{raised, joined}
use Rattle.fixed_units.specs.Numbers.{rounded, halved}
use Rattle.fixed_units.specs.declared.boxes.MathBox.{MathBox}
use Rattle.fixed_units.specs.declared.pull.Pull.TheVariants.{Free, Block, Inline}
use Rattle.font_metrics.specs.Metrics.{MetricsValue, scale_of, constant_of, kern_of, kern_value, kerns_of}
use Rattle.font_metrics.specs.Tables.{no_kerns, no_tables}
use Rattle.font_metrics.specs.declared.corner.Corner.TheVariants.{TopRight, BottomLeft}
use Rattle.op_dictionary.specs.declared.operator.Axis.TheVariants.{Inline as Sideways}
use Rattle.row_stretch.specs.declared.parts.KidPull.{KidPull}
use Rattle.row_stretch.specs.Questions.{planned, asks_from}
use Rattle.scripts.specs.Beside.{spot, sub_x_of, sup_x_of, ending_at_of, sub_of, sup_of, sub_sup_of}
use Rattle.scripts.specs.declared.parts.LimitCase.TheVariants.{Large, Stretchy, Plain}
use Rattle.scripts.specs.LimitGaps.{above_of, below_of, distance_of, extra_of}
use Rattle.scripts.specs.Limits.{lean_of, middle_of, leaning_of, under_x_of, over_x_of, under_limit_of, over_limit_of, whole_of, attached_of, spot_in_of, limits_of, under_over_of}
use Rattle.scripts.specs.Kerns.{no_corners, sub_kern_of, sup_kern_of}
use Rattle.scripts.specs.declared.parts.KernFrom.{KernFrom}
use Rattle.scripts.specs.Lengths.{sub_lengths_of, sup_lengths_of, pair_lengths_of}
use Rattle.scripts.specs.Questions.{first_limit_asks_of, second_limit_asks_of}
use Rattle.scripts.specs.Shifts.{sub_shift_of, sup_shift_of, lack_of, rise_of, moved_apart_of, pair_shifts_of}

-- 1024 design units to the em; the constants of scripts
abbrev sample : MetricsValue
sample = record {
  version = 1;
  upem = 1024;
  line_ascent = 900;
  line_descent = 300;
  x_height = 512;
  overlap = Some 50;
  constants = (8, pos 160) ∷ (9, pos 300) ∷ (10, pos 100) ∷ (11, pos 360) ∷ (12, pos 300) ∷ (13, pos 120) ∷ (14, pos 380)
      ∷ (15, pos 200) ∷ (16, pos 400) ∷ (17, pos 50) ∷ [];
  glyphs = [];
  characters = [];
  tables = no_tables;
  operators = [];
}

abbrev box : ℤ → ℤ → ℤ → ℤ → ℤ → MathBox
box width ascent descent ink_ascent ink_descent = record {
  width = width;
  ascent = ascent;
  descent = descent;
  ink_ascent = ink_ascent;
  ink_descent = ink_descent;
  italic = pos 0;
  accent = halved width;
}

-- and those of limits
abbrev limited : MetricsValue
limited = record sample {
  constants = (6, pos 512) ∷ (18, pos 100) ∷ (19, pos 200) ∷ (20, pos 100) ∷ (21, pos 600) ∷ (43, pos 100) ∷ (45, pos 40) ∷ [];
}

-- the digit 1 at 12 px, a sum sign and x at 16 px, a space of 10 px above the baseline
abbrev one : MathBox
one = box (pos 6144) (pos 10800) (pos 3600) (pos 8160) (pos 0)

abbrev sum : MathBox
sum = box (pos 16000) (pos 14400) (pos 4800) (pos 12288) (pos 4096)

abbrev letter : MathBox
letter = box (pos 9280) (pos 14400) (pos 4800) (pos 7168) (pos 128)

abbrev space : MathBox
space = box (pos 0) (pos 10240) (pos 0) (pos 10240) (pos 0)

-- an integral sign of display size, which leans by 4800
abbrev integral : MathBox
integral = record (box (pos 14400) (pos 22400) (pos 14208) (pos 22400) (pos 14208)) { italic = pos 4800 }

-- the largest of 2560, 3360 and 5696
sub-under_sum : (sub_of sample sum true one no_corners (pos 16384)).sub ≡ spot (pos 16000) (pos 5696)
unfolding sub_of sub_kern_of sub_shift_of sub_lengths_of sub_x_of constant_of scale_of rounded
sub-under_sum = refl

width-under_sum : (sub_of sample sum true one no_corners (pos 16384)).frame.width ≡ pos 22944
unfolding sub_of sub_kern_of sub_shift_of sub_lengths_of sub_x_of ending_at_of constant_of scale_of rounded
width-under_sum = refl

-- the subscript stands under the lean of a large operator
sub_sup-integral : sub_sup_of sample integral true false one one no_corners (pos 16384) ≡ record {
  frame = record {
    width = pos 21344;
    ascent = pos 27120;
    descent = pos 19408;
    ink_ascent = pos 24480;
    ink_descent = pos 15808;
    italic = pos 0;
    accent = pos 10672;
  };
  sub = spot (pos 9600) (pos 15808);
  sup = spot (pos 14400) (neg_ℤ (pos 16320));
}
unfolding sub_sup_of sub_kern_of sup_kern_of pair_shifts_of moved_apart_of lack_of rise_of sub_shift_of sup_shift_of sub_lengths_of sup_lengths_of pair_lengths_of sub_x_of sup_x_of ending_at_of raised joined constant_of scale_of rounded halved
sub_sup-integral = refl

-- a lack of 2240: the superscript rises by 640 to 6400, the subscript falls by 1600 to 7040
shifts-both_move : pair_shifts_of sample (pos 16384) false letter space one ≡ record { up = pos 6400; down = pos 7040 }
unfolding pair_shifts_of moved_apart_of lack_of rise_of sub_shift_of sup_shift_of sub_lengths_of sup_lengths_of pair_lengths_of constant_of scale_of rounded
shifts-both_move = refl

-- behind a letter a superscript begins behind its lean
sup-leaning : (sup_of sample (record letter { italic = pos 500 }) false true one no_corners (pos 16384)).sup ≡ spot (pos 9780) (neg_ℤ (pos 4800))
unfolding sup_of sup_kern_of sup_shift_of sup_lengths_of sup_x_of constant_of scale_of rounded
sup-leaning = refl

-- ---- kerns: x has -40 at its top right, and -20 from 400 on; the digit 1 has 0 at its bottom left, and 10
-- from 100 on. The superscript's bottom lies at 5760, and the top of the base at 7168
abbrev kerned : MetricsValue
kerned = record sample {
  version = 2;
  tables = record no_tables {
    kerns = record no_kerns {
      top_right = (0, record { lowest = neg_ℤ (pos 40); steps = record { height = pos 400; value = neg_ℤ (pos 20) } ∷ [] } ∷ []) ∷ [];
      bottom_left = (1, record { lowest = pos 0; steps = record { height = pos 100; value = pos 10 } ∷ [] } ∷ []) ∷ [];
    };
  };
}

abbrev both_corners : KernFrom
both_corners = record no_corners {
  base_sup = Some (record { glyph = record { 0 = 0 }; corner = TopRight; size = pos 16384 });
  sup = Some (record { glyph = record { 0 = 1 }; corner = BottomLeft; size = pos 12288 });
}

-- -640 and 0 at the bottom, -320 and 120 at the top: the larger sum counts
sup-kerned : (sup_of kerned letter false false one both_corners (pos 16384)).sup ≡ spot (pos 9080) (neg_ℤ (pos 5760))
unfolding sup_of sup_kern_of kern_of kerns_of kern_value sup_shift_of sup_lengths_of sup_x_of constant_of scale_of rounded
sup-kerned = refl

-- ---- questions: an accent that stretches over a letter asks the letter first
abbrev plain : KidPull
plain = record { axis = None }

abbrev arrow : KidPull
arrow = record { axis = Some Sideways }

first-accent : first_limit_asks_of (plain ∷ arrow ∷ []) Free ≡ record { kid = 0; pull = Free } ∷ []
unfolding asks_from planned
first-accent = refl

second-accent : second_limit_asks_of (plain ∷ arrow ∷ []) Free (letter ∷ []) ≡ record { kid = 1; pull = Inline (pos 9280) } ∷ []
unfolding asks_from planned
second-accent = refl

-- a base that is pulled up and down is asked with that pull
first-pulled : first_limit_asks_of (arrow ∷ plain ∷ arrow ∷ []) (Block (pos 5) (pos 3)) ≡ record { kid = 0; pull = Block (pos 5) (pos 3) } ∷ record { kid = 1; pull = Free } ∷ []
unfolding asks_from planned
first-pulled = refl

second-pulled : second_limit_asks_of (arrow ∷ plain ∷ arrow ∷ []) (Block (pos 5) (pos 3)) (sum ∷ one ∷ []) ≡ record { kid = 2; pull = Inline (pos 16000) } ∷ []
unfolding asks_from planned
second-pulled = refl

-- ---- limits of a sum sign of display size: the underscript lies 8704 and the larger of 9600 and 9760
-- below it
abbrev large_sum : MathBox
large_sum = box (pos 22400) (pos 16896) (pos 8704) (pos 16896) (pos 8704)

sum-limit_under : (under_over_of limited large_sum (Some one) None Large false false (pos 16384)).under ≡ spot (pos 8128) (pos 18464)
unfolding under_limit_of below_of distance_of extra_of under_x_of middle_of lean_of whole_of attached_of spot_in_of limits_of raised joined constant_of scale_of rounded halved
sum-limit_under = refl

descent-sum_limit : (under_over_of limited large_sum (Some one) None Large false false (pos 16384)).frame.descent ≡ pos 22064
unfolding under_limit_of below_of distance_of extra_of under_x_of middle_of lean_of whole_of attached_of spot_in_of limits_of raised joined constant_of scale_of rounded halved
descent-sum_limit = refl

-- the hat is wider than the letter, which moves right
abbrev hat : MathBox
hat = box (pos 10240) (pos 14400) (pos 4800) (pos 11520) (neg_ℤ (pos 8000))

letter-hat : under_over_of limited letter None (Some hat) Plain true false (pos 16384) ≡ record {
  frame = record {
    width = pos 10240;
    ascent = pos 14592;
    descent = pos 4800;
    ink_ascent = pos 11712;
    ink_descent = pos 128;
    italic = pos 0;
    accent = pos 5120;
  };
  base = spot (pos 480) (pos 0);
  under = spot (pos 0) (pos 0);
  over = spot (pos 0) (neg_ℤ (pos 192));
}
unfolding over_limit_of above_of distance_of extra_of over_x_of leaning_of middle_of lean_of whole_of attached_of spot_in_of limits_of raised joined constant_of scale_of rounded halved
letter-hat = refl

-- over a letter, a digit that is no accent leaves 1600 and counts 640 more above
letter-digit : (under_over_of limited letter None (Some one) Plain false false (pos 16384)).frame.ascent ≡ pos 20208
unfolding over_limit_of above_of distance_of extra_of over_x_of leaning_of middle_of lean_of whole_of attached_of spot_in_of limits_of raised joined constant_of scale_of rounded halved
letter-digit = refl

-- an integral sign that leans by 4800 moves its limits apart by as much
integral-limits : under_over_of limited integral (Some one) (Some one) Large false false (pos 16384) ≡ record {
  frame = record {
    width = pos 14400;
    ascent = pos 36400;
    descent = pos 27568;
    ink_ascent = pos 33760;
    ink_descent = pos 23968;
    italic = pos 0;
    accent = pos 7200;
  };
  base = spot (pos 0) (pos 0);
  under = spot (pos 1728) (pos 23968);
  over = spot (pos 6528) (neg_ℤ (pos 25600));
}
unfolding under_limit_of over_limit_of above_of below_of distance_of extra_of under_x_of over_x_of leaning_of middle_of lean_of whole_of attached_of spot_in_of limits_of raised joined constant_of scale_of rounded halved
integral-limits = refl

-- ---- with constants of stretched stacks and underbars too: shifts of 4800 up and 9600 down, gaps of
-- 1024, and under a bar a gap of 1600 and 640 more below
abbrev stacked : MetricsValue
stacked = record sample {
  constants = (28, pos 300) ∷ (29, pos 600) ∷ (30, pos 64) ∷ (31, pos 64) ∷ (46, pos 100) ∷ (48, pos 40) ∷ [];
}

-- over a stretched arrow, whose ink lies above the baseline, the gap decides, and under it the shift
abbrev stretched : MathBox
stretched = box (pos 20000) (pos 14400) (pos 4800) (pos 5600) (neg_ℤ (pos 2592))

arrow-limits : under_over_of stacked stretched (Some one) (Some one) Stretchy false false (pos 16384) ≡ record {
  frame = record {
    width = pos 20000;
    ascent = pos 17424;
    descent = pos 13200;
    ink_ascent = pos 14784;
    ink_descent = pos 9600;
    italic = pos 0;
    accent = pos 10000;
  };
  base = spot (pos 0) (pos 0);
  under = spot (pos 6928) (pos 9600);
  over = spot (pos 6928) (neg_ℤ (pos 6624));
}
unfolding under_limit_of over_limit_of above_of below_of distance_of extra_of under_x_of over_x_of leaning_of middle_of lean_of whole_of attached_of spot_in_of limits_of raised joined constant_of scale_of rounded halved
arrow-limits = refl

-- under a letter a digit leaves 1600 and counts 640 more below
letter-under : under_over_of stacked letter (Some one) None Plain false false (pos 16384) ≡ record {
  frame = record {
    width = pos 9280;
    ascent = pos 14400;
    descent = pos 14128;
    ink_ascent = pos 7168;
    ink_descent = pos 9888;
    italic = pos 0;
    accent = pos 4640;
  };
  base = spot (pos 0) (pos 0);
  under = spot (pos 1568) (pos 9888);
  over = spot (pos 0) (pos 0);
}
unfolding under_limit_of below_of distance_of extra_of under_x_of middle_of lean_of whole_of attached_of spot_in_of limits_of raised joined constant_of scale_of rounded halved
letter-under = refl

-- as an accent it touches the ink of the letter
letter-accentunder : under_over_of stacked letter (Some one) None Plain false true (pos 16384) ≡ record {
  frame = record {
    width = pos 9280;
    ascent = pos 14400;
    descent = pos 11888;
    ink_ascent = pos 7168;
    ink_descent = pos 8288;
    italic = pos 0;
    accent = pos 4640;
  };
  base = spot (pos 0) (pos 0);
  under = spot (pos 1568) (pos 8288);
  over = spot (pos 0) (pos 0);
}
unfolding under_limit_of below_of distance_of extra_of under_x_of middle_of lean_of whole_of attached_of spot_in_of limits_of raised joined constant_of scale_of rounded halved
letter-accentunder = refl
