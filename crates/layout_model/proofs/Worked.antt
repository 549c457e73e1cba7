-- Worked elements over the answers of their children, with what the sample metrics have of constants: the definitions
-- compute them, and a wrong one is refused at its line.
use Rattle.std.proofs.Common.{◌≡◌, refl, ℕ, ℤ, pos, neg_ℤ, Bool, true, false, List, [], ◌∷◌, map, codes, ◌∙◌, ap, Some, None}
use Rattle.fixed_units.specs.Boxes.{joined, raised}
use Rattle.css_lengths.specs.Lengths.{behind_digits, behind_sign, digits_in_front, fraction_of, is_negative, length_of, number_of, resolved, size_of as unit_size, trimmed, unit_at, unit_of}
use Rattle.fixed_units.specs.Numbers.{halved, rounded}
use Rattle.fixed_units.specs.Sums.{list_to, sum_to}
use Rattle.fixed_units.specs.declared.boxes.MathBox.{MathBox}
use Rattle.font_metrics.specs.Constants.{place_of_constant}
use Rattle.font_metrics.specs.Metrics.{MetricsValue, constant_of, glyph_at, percent_of, place_of_letter, scale_of}
use Rattle.font_metrics.specs.Tables.{no_tables}
use Rattle.font_metrics.specs.declared.constants.ConstName.TheVariants.{AxisHeight, FractionDenominatorGapMin, FractionDenominatorShiftDown, FractionNumeratorGapMin, FractionNumeratorShiftUp, FractionRuleThickness, LowerLimitBaselineDropMin, LowerLimitGapMin, RadicalDegreeBottomRaisePercent, RadicalExtraAscender, RadicalKernAfterDegree, RadicalKernBeforeDegree, RadicalRuleThickness, RadicalVerticalGap, SpaceAfterScript, SubSuperscriptGapMin, SubscriptBaselineDropMin, SubscriptShiftDown, SubscriptTopMax, SuperscriptBaselineDropMax, SuperscriptBottomMaxWithSubscript, SuperscriptBottomMin, SuperscriptShiftUp}
use Rattle.font_metrics.specs.declared.mark.Mark.TheVariants.{Glyph, Rule}
use Rattle.math_tree.specs.declared.attributes.Attribute.{Attribute}
use Rattle.math_tree.specs.declared.kind.Kind.{Kind}
use Rattle.math_tree.specs.declared.kind.Kind.TheVariants.{Math, Mfrac, Mi, Mn, Mo, Mroot, Mspace, Msubsup, Mtable, Mtd, Mtr, Munder}
use Rattle.math_tree.specs.declared.node.Head.{Head}
use Rattle.math_tree.specs.declared.node.Node.{Node}
use Rattle.math_tree.specs.declared.node.Node.TheFolds.{fold-roll-Node}
use Rattle.math_tree.specs.declared.node.Node.TheViews.{roll-Node}
use Rattle.op_dictionary.specs.declared.operator.Form.TheVariants.{Infix}
use Rattle.op_dictionary.specs.declared.text.OpText.TheVariants.{One}
use Rattle.embellished.specs.Facts.{core_below, facts_over, is_space_like}
use Rattle.embellished.specs.Flow.{flow_by}
use Rattle.embellished.specs.Forms.{properties_at, stretch_axis}
use Rattle.embellished.specs.Seen.{Kid, Seen}
use Rattle.embellished.specs.Validity.{is_valid, laid_as}
use Rattle.embellished.specs.declared.facts.Core.{Core}
use Rattle.embellished.specs.declared.facts.Facts.{Facts}
use Rattle.glyph_assembly.specs.Glyphs.{glyph_frame, glyph_reach}
use Rattle.glyph_assembly.specs.Shaping.{shaped_of}
use Rattle.fractions.specs.Equation.{clear_shift_of, rule_shifts_of}
use Rattle.fractions.specs.Lengths.{rule_lengths_of}
use Rattle.fractions.specs.Placing.{centred_of, lower_of, placed_of, with_rule_of}
use Rattle.radicals.specs.Equation.{index_height_of, root_frame_of, root_start_of, share_of, top_of}
use Rattle.radicals.specs.Lengths.{index_lengths_of, root_lengths_of}
use Rattle.radicals.specs.Placing.{covered_of, root_of, root_with_index_of, with_index_of}
use Rattle.row_stretch.specs.Equation.{accent_of, advance_of, ahead_of, offset_of, room_of}
use Rattle.row_stretch.specs.Questions.{asks_from, planned}
use Rattle.scripts.specs.Kerns.{sub_kern_of, sup_kern_of}
use Rattle.scripts.specs.Beside.{ending_at_of, sub_sup_of, sub_x_of, sup_x_of}
use Rattle.scripts.specs.Lengths.{pair_lengths_of, sub_lengths_of, sup_lengths_of}
use Rattle.scripts.specs.LimitGaps.{below_of, distance_of, extra_of}
use Rattle.scripts.specs.Limits.{attached_of, lean_of, limits_of, middle_of, spot_in_of, under_limit_of, under_x_of, whole_of}
use Rattle.scripts.specs.Shifts.{lack_of, moved_apart_of, pair_shifts_of, rise_of, sub_shift_of, sup_shift_of}
use Rattle.math_tables.specs.Columns.{columns_of}
use Rattle.math_tables.specs.Placing.{baseline_of, cell_x_of, slot_x_of, start_of, table_ascent_of, top_of as top_of_row}
use Rattle.span_tables.specs.Heights.{height_over}
use Rattle.span_tables.specs.Spans.{written}
use Rattle.span_tables.specs.Widths.{share_of as span_share_of, width_over}
use Rattle.style_scope.specs.Rules.{by_direction, by_display, by_level, by_name, by_place, by_size, is_compact_in, is_cramped_in, levels_of}
use Rattle.style_scope.specs.Sizes.{size_of}
use Rattle.style_scope.specs.Styles.{by_attributes, child_style_of, initial}
use Rattle.layout_model.specs.Answers.{last_answer}
use Rattle.token_boxes.specs.Lengths.{absolute_in}
use Rattle.token_boxes.specs.Space.{side_of, space_of}
use Rattle.token_boxes.specs.Token.{token_glyph_of}
use Rattle.layout_model.specs.Contexts.{kid_axis, kid_style, pull_of}
use Rattle.layout_model.specs.Direction.{mirrored}
use Rattle.layout_model.specs.Elements.{offset, outcome_with, row_frame, row_in}
use Rattle.layout_model.specs.Equations.{cells_placed, corner_at, limit_case, outcome_by, space_outcome, thickness_of}
use Rattle.layout_model.specs.Layout.{Subtree, equation, last_answers, lay, lay_by, over, subtree}
use Rattle.layout_model.specs.Questions.{asking, asking_of, base_properties, first, first_asks, kid_pulls, second, second_asks}
use Rattle.layout_model.specs.Tables.{cell_span, spans_of, stretch_at, table_columns, table_rows}
use Rattle.layout_model.specs.declared.context.Context.{Context}
use Rattle.layout_model.specs.declared.context.Stretch.{Stretch}
use Rattle.layout_model.specs.declared.context.Stretch.TheVariants.{None as Unstretched, Slots}
use Rattle.layout_model.specs.declared.outcome.Answer.{Answer}
use Rattle.layout_model.specs.declared.outcome.Offset.{Offset}
use Rattle.layout_model.specs.declared.outcome.Outcome.{Outcome}
use Rattle.font_metrics.specs.declared.mark.Mark.{Mark}

-- ---- the sample's constants and its radical sign, 1024 design units to the em

abbrev sample : MetricsValue
sample = record {
  version = 1;
  upem = 1024;
  line_ascent = 900;
  line_descent = 300;
  x_height = 512;
  overlap = Some 50;
  constants =
      (place_of_constant AxisHeight, pos 256)
      ∷ (place_of_constant SubscriptShiftDown, pos 160)
      ∷ (place_of_constant SubscriptTopMax, pos 300)
      ∷ (place_of_constant SubscriptBaselineDropMin, pos 100)
      ∷ (place_of_constant SuperscriptShiftUp, pos 360)
      ∷ (place_of_constant SuperscriptBottomMin, pos 120)
      ∷ (place_of_constant SuperscriptBaselineDropMax, pos 380)
      ∷ (place_of_constant SubSuperscriptGapMin, pos 200)
      ∷ (place_of_constant SuperscriptBottomMaxWithSubscript, pos 400)
      ∷ (place_of_constant SpaceAfterScript, pos 50)
      ∷ (place_of_constant LowerLimitGapMin, pos 100)
      ∷ (place_of_constant LowerLimitBaselineDropMin, pos 600)
      ∷ (place_of_constant FractionNumeratorShiftUp, pos 400)
      ∷ (place_of_constant FractionDenominatorShiftDown, pos 350)
      ∷ (place_of_constant FractionNumeratorGapMin, pos 64)
      ∷ (place_of_constant FractionRuleThickness, pos 40)
      ∷ (place_of_constant FractionDenominatorGapMin, pos 64)
      ∷ (place_of_constant RadicalVerticalGap, pos 60)
      ∷ (place_of_constant RadicalRuleThickness, pos 40)
      ∷ (place_of_constant RadicalExtraAscender, pos 40)
      ∷ (place_of_constant RadicalKernBeforeDegree, pos 100)
      ∷ (place_of_constant RadicalKernAfterDegree, neg_ℤ (pos 600))
      ∷ (place_of_constant RadicalDegreeBottomRaisePercent, pos 60)
      ∷ [];
  glyphs = record {
    name = [];
    glyph = record { advance = pos 820; ink_ascent = pos 800; ink_descent = pos 224; italic = pos 0; accent = None };
  } ∷ [];
  characters = (0x221A, 0) ∷ [];
  tables = no_tables;
  operators = [];
}

-- ---- elements and answers

abbrev head_of : Kind → Head
head_of kind = record { id = record { 0 = 1 }; name = []; kind = kind; attributes = []; text = [] }

abbrev given : List ℕ → List ℕ → Attribute
given name value = record { name = name; value = value }

abbrev head_with : Kind → List Attribute → Head
head_with kind attributes = record { id = record { 0 = 2 }; name = []; kind = kind; attributes = attributes; text = [] }

abbrev plain : Kind → Facts
plain kind = record { space_like = false; core = None; laid = kind }

abbrev child : Kind → Kid
child kind = record { head = head_of kind; facts = plain kind }

-- an operator that doesn't stretch
abbrev core : Bool → Core
core large = record {
  text = One 0x2211;
  form = None;
  stretchy = Some false;
  symmetric = None;
  largeop = Some large;
  movablelimits = Some false;
}

abbrev operator : Bool → Kid
operator large = record { head = head_of Mo; facts = record { space_like = false; core = Some (core large); laid = Mo } }

abbrev element : Facts → List Kid → Seen
element own kids = record { head = head_of own.laid; facts = own; kids = kids; prescripts = 9 }

-- 16 px, unstretched
abbrev in_text : Context
in_text = record { style = initial; form = Infix; stretch = Unstretched }

abbrev in_display : Context
in_display = record { style = record initial { display = true }; form = Infix; stretch = Unstretched }

abbrev box : ℤ → ℤ → ℤ → ℤ → ℤ → ℤ → MathBox
box width ascent descent ink_ascent ink_descent accent = record {
  width = width;
  ascent = ascent;
  descent = descent;
  ink_ascent = ink_ascent;
  ink_descent = ink_descent;
  italic = pos 0;
  accent = accent;
}

abbrev answer : MathBox → ℤ → List ℤ → Answer
answer frame space cells = record { frame = frame; before = space; after = space; cells = cells; spans = [] }

-- the digit 1 at 16 px, at 12 px and at 8 px, x at 16 px, and a space of 10 px above the baseline
abbrev one : Answer
one = answer (box (pos 8192) (pos 14400) (pos 4800) (pos 10880) (pos 0) (pos 4096)) (pos 0) []

abbrev small_one : Answer
small_one = answer (box (pos 6144) (pos 10800) (pos 3600) (pos 8160) (pos 0) (pos 3072)) (pos 0) []

abbrev least_one : Answer
least_one = answer (box (pos 4096) (pos 7200) (pos 2400) (pos 5440) (pos 0) (pos 2048)) (pos 0) []

abbrev letter : Answer
letter = answer (box (pos 9280) (pos 14400) (pos 4800) (pos 7168) (pos 128) (pos 4640)) (pos 0) []

abbrev space : Answer
space = answer (box (pos 0) (pos 10240) (pos 0) (pos 10240) (pos 0) (pos 0)) (pos 0) []

-- a minus with a space of 4/18 em at both sides, and the sum of display size with one of 3/18
abbrev minus : Answer
minus = answer (box (pos 12800) (pos 14400) (pos 4800) (pos 4480) (neg_ℤ (pos 3712)) (pos 6400)) (pos 3641) []

abbrev sum : Answer
sum = answer (box (pos 22400) (pos 16896) (pos 8704) (pos 16896) (pos 8704) (pos 11200)) (pos 2731) []

-- a row of three cells 21300 wide
abbrev row : Answer
row = answer (box (pos 63900) (pos 18496) (pos 8896) (pos 10880) (pos 0) (pos 31950)) (pos 0) (pos 21300 ∷ pos 21300 ∷ pos 21300 ∷ [])

abbrev made : MathBox → ℤ → List Offset → List Mark → Outcome
made frame around offsets marks = record { answer = answer frame around []; offsets = offsets; marks = marks }

-- ---- one element each

-- 1 - x in the root: the spaces stand round the minus
pub row-one_minus_x : equation sample (element (plain Math) (child Mn ∷ operator false ∷ child Mi ∷ [])) in_text (one ∷ minus ∷ letter ∷ []) []
    ≡ made (box (pos 37554) (pos 14400) (pos 4800) (pos 10880) (pos 128) (pos 18777)) (pos 0)
    (offset 0 (pos 0) (pos 0) ∷ offset 1 (pos 11833) (pos 0) ∷ offset 2 (pos 28274) (pos 0) ∷ []) []
unfolding equation last_answers last_answer first second asking asking_of kid_pulls kid_axis stretch_axis properties_at pull_of first_asks second_asks asks_from planned outcome_by outcome_with row_frame row_in accent_of offset_of room_of ahead_of advance_of sum_to list_to joined halved
row-one_minus_x = refl

-- 1 over 1 with a rule
pub fraction-one_over_one : equation sample (element (plain Mfrac) (child Mn ∷ child Mn ∷ [])) in_text (small_one ∷ small_one ∷ []) []
    ≡ made (box (pos 8192) (pos 17200) (pos 9200) (pos 14560) (pos 5600) (pos 4096)) (pos 0)
    (offset 0 (pos 1024) (neg_ℤ (pos 6400)) ∷ offset 1 (pos 1024) (pos 5600) ∷ [])
    (Rule (pos 1024) (neg_ℤ (pos 4416)) (pos 6144) (pos 640) ∷ [])
unfolding equation last_answers last_answer first second asking asking_of kid_pulls kid_axis stretch_axis pull_of first_asks second_asks asks_from planned outcome_by outcome_with thickness_of size_of with_rule_of lower_of placed_of centred_of raised joined rule_shifts_of clear_shift_of rule_lengths_of constant_of scale_of rounded list_to halved
fraction-one_over_one = refl

-- the first root of 1
pub root-one : equation sample (element (plain Mroot) (child Mn ∷ child Mn ∷ [])) in_text (one ∷ least_one ∷ []) []
    ≡ made (box (pos 22912) (pos 14400) (pos 4800) (pos 12480) (pos 3904) (pos 11456)) (pos 0)
    (offset 0 (pos 14720) (pos 0) ∷ offset 1 (pos 1600) (neg_ℤ (pos 5926)) ∷ [])
    (Glyph (pos 1600) (pos 320) (pos 16384) (record { 0 = 0 }) ∷ Rule (pos 14720) (neg_ℤ (pos 12480)) (pos 8192) (pos 640) ∷ [])
unfolding equation last_answers last_answer first second asking asking_of kid_pulls kid_axis stretch_axis pull_of first_asks second_asks asks_from planned outcome_by outcome_with size_of root_with_index_of with_index_of root_of covered_of root_frame_of top_of root_start_of index_height_of share_of root_lengths_of index_lengths_of raised joined shaped_of glyph_frame glyph_reach place_of_letter constant_of percent_of scale_of glyph_at rounded list_to halved
root-one = refl

-- boxes as of x with a high space below and a 1 above: the two are moved apart
pub scripts-apart : equation sample (element (plain Msubsup) (child Mspace ∷ child Mspace ∷ child Mspace ∷ [])) in_text (letter ∷ space ∷ small_one ∷ []) []
    ≡ made (box (pos 16224) (pos 17200) (pos 7040) (pos 14560) (pos 7040) (pos 8112)) (pos 0)
    (offset 0 (pos 0) (pos 0) ∷ offset 1 (pos 9280) (pos 7040) ∷ offset 2 (pos 9280) (neg_ℤ (pos 6400)) ∷ []) []
unfolding equation last_answers last_answer first second asking asking_of kid_pulls kid_axis stretch_axis base_properties pull_of first_asks second_asks asks_from planned outcome_by outcome_with size_of corner_at token_glyph_of sub_sup_of sub_kern_of sup_kern_of pair_shifts_of moved_apart_of lack_of rise_of sub_shift_of sup_shift_of sub_lengths_of sup_lengths_of pair_lengths_of sub_x_of sup_x_of ending_at_of raised joined constant_of scale_of rounded list_to halved
scripts-apart = refl

-- a sum in display style with a 1 below it
pub limits-sum : equation sample (element (record { space_like = false; core = Some (core true); laid = Munder }) (operator true ∷ child Mn ∷ [])) in_display (sum ∷ small_one ∷ []) []
    ≡ made (box (pos 22400) (pos 16896) (pos 22064) (pos 16896) (pos 18464) (pos 11200)) (pos 2731)
    (offset 0 (pos 0) (pos 0) ∷ offset 1 (pos 8128) (pos 18464) ∷ []) []
unfolding equation last_answers last_answer first second asking asking_of kid_pulls kid_axis stretch_axis base_properties properties_at pull_of first_asks second_asks asks_from planned outcome_by outcome_with limit_case size_of under_limit_of below_of distance_of extra_of under_x_of middle_of lean_of whole_of attached_of spot_in_of limits_of raised joined constant_of scale_of rounded list_to halved
limits-sum = refl

-- three rows of three cells, round the axis
pub table-three_rows : equation sample (element (plain Mtable) (child Mtr ∷ child Mtr ∷ child Mtr ∷ [])) in_text (row ∷ row ∷ row ∷ []) (row ∷ row ∷ row ∷ [])
    ≡ made (box (pos 63900) (pos 45184) (pos 36992) (pos 45184) (pos 36992) (pos 31950)) (pos 0)
    (offset 0 (pos 0) (neg_ℤ (pos 26688)) ∷ offset 1 (pos 0) (pos 704) ∷ offset 2 (pos 0) (pos 28096) ∷ []) []
unfolding equation last_answers last_answer first second asking asking_of kid_pulls kid_axis stretch_axis pull_of first_asks second_asks asks_from planned outcome_by outcome_with size_of table_rows table_columns columns_of table_ascent_of baseline_of top_of_row start_of sum_to constant_of scale_of rounded list_to halved
table-three_rows = refl

-- ---- a cell over two columns

abbrev asked_with : Stretch → Context
asked_with stretch = record { style = initial; form = Infix; stretch = stretch }

-- cells with a space of 50.001 px and with the digit 1
abbrev wide : Answer
wide = answer (box (pos 64309) (pos 4096) (pos 4096) (pos 0) (pos 0) (pos 32154)) (pos 0) []

abbrev cell : Answer
cell = answer (box (pos 21300) (pos 18496) (pos 8896) (pos 10880) (pos 0) (pos 10650)) (pos 0) []

abbrev spanning : List ℕ → Kid
spanning name = record { head = head_with Mtd (given name (codes "2") ∷ []); facts = plain Mtd }

-- the row of the wide cell, and the one below it with two cells: at first as wide as these, then as the table
abbrev upper : Answer
upper = record {
  frame = box (pos 64309) (pos 4096) (pos 4096) (pos 0) (pos 0) (pos 32154);
  before = pos 0;
  after = pos 0;
  cells = pos 64309 ∷ [];
  spans = record { columns = 2; rows = 1; ascent = pos 4096; descent = pos 4096 } ∷ [];
}

abbrev lower : ℤ → ℤ → Answer
lower width accent = answer (box width (pos 18496) (pos 8896) (pos 10880) (pos 0) accent) (pos 0) (pos 21300 ∷ pos 21300 ∷ [])

pub row-over_two : equation sample (element (plain Mtr) (spanning (codes "columnspan") ∷ [])) in_text (wide ∷ []) []
    ≡ record { answer = upper; offsets = offset 0 (pos 0) (pos 0) ∷ []; marks = [] }
unfolding equation last_answers last_answer first second asking asking_of kid_pulls kid_axis stretch_axis pull_of first_asks second_asks asks_from planned outcome_by outcome_with cells_placed cell_x_of start_of spans_of cell_span written joined sum_to list_to halved
row-over_two = refl

-- the wide cell lacks 21709, of which the first column gets a unit more
pub slots-over_two : stretch_at (upper ∷ lower (pos 42600) (pos 21300) ∷ []) 0 ≡ Slots (pos 64309 ∷ pos 0 ∷ pos 64309 ∷ [])
unfolding stretch_at width_over span_share_of sum_to list_to
slots-over_two = refl

pub slots-below : stretch_at (upper ∷ lower (pos 42600) (pos 21300) ∷ []) 1
    ≡ Slots (pos 64309 ∷ pos 0 ∷ pos 32155 ∷ pos 32155 ∷ pos 32154 ∷ [])
unfolding stretch_at width_over span_share_of sum_to list_to
slots-below = refl

pub row-below : equation sample (element (plain Mtr) (child Mtd ∷ child Mtd ∷ []))
    (asked_with (Slots (pos 64309 ∷ pos 0 ∷ pos 32155 ∷ pos 32155 ∷ pos 32154 ∷ []))) (cell ∷ cell ∷ []) []
    ≡ record { answer = lower (pos 64309) (pos 32154); offsets = offset 0 (pos 5427) (pos 0) ∷ offset 1 (pos 37582) (pos 0) ∷ []; marks = [] }
unfolding equation last_answers last_answer first second asking asking_of kid_pulls kid_axis stretch_axis pull_of first_asks second_asks asks_from planned outcome_by outcome_with cells_placed slot_x_of spans_of cell_span joined list_to halved
row-below = refl

-- from right to left its cells change places
pub row-below_from_right : equation sample (element (plain Mtr) (child Mtd ∷ child Mtd ∷ []))
    (record (asked_with (Slots (pos 64309 ∷ pos 0 ∷ pos 32155 ∷ pos 32155 ∷ pos 32154 ∷ []))) { style = record initial { rtl = true } }) (cell ∷ cell ∷ []) []
    ≡ record { answer = lower (pos 64309) (pos 32154); offsets = offset 0 (pos 37582) (pos 0) ∷ offset 1 (pos 5427) (pos 0) ∷ []; marks = [] }
unfolding equation last_answers last_answer first second asking asking_of kid_pulls kid_axis stretch_axis pull_of first_asks second_asks asks_from planned outcome_by outcome_with cells_placed slot_x_of spans_of cell_span joined mirrored list_to halved
row-below_from_right = refl

pub table-over_two : equation sample (element (plain Mtable) (child Mtr ∷ child Mtr ∷ [])) in_text
    (upper ∷ lower (pos 42600) (pos 21300) ∷ []) (upper ∷ lower (pos 64309) (pos 32154) ∷ [])
    ≡ made (box (pos 64309) (pos 21888) (pos 13696) (pos 21888) (pos 13696) (pos 32154)) (pos 0)
    (offset 0 (pos 0) (neg_ℤ (pos 17792)) ∷ offset 1 (pos 0) (pos 4800) ∷ []) []
unfolding equation last_answers last_answer first second asking asking_of kid_pulls kid_axis stretch_axis pull_of first_asks second_asks asks_from planned outcome_by outcome_with size_of stretch_at table_rows table_columns width_over span_share_of height_over table_ascent_of baseline_of top_of_row start_of sum_to constant_of scale_of rounded list_to halved
table-over_two = refl

-- ---- a cell over two rows

-- a cell with a space of 40 px below the baseline
abbrev deep : Answer
deep = answer (box (pos 13108) (pos 4096) (pos 45056) (pos 0) (pos 40960) (pos 6554)) (pos 0) []

-- its row, in which it counts upward alone, and the row below it
abbrev beside : Answer
beside = record {
  frame = box (pos 34408) (pos 18496) (pos 8896) (pos 10880) (pos 40960) (pos 17204);
  before = pos 0;
  after = pos 0;
  cells = pos 13108 ∷ pos 21300 ∷ [];
  spans =
      record { columns = 1; rows = 2; ascent = pos 4096; descent = pos 45056 }
      ∷ record { columns = 1; rows = 1; ascent = pos 18496; descent = pos 8896 } ∷ [];
}

abbrev last : ℤ → ℤ → Answer
last width accent = answer (box width (pos 18496) (pos 8896) (pos 10880) (pos 0) accent) (pos 0) (pos 21300 ∷ [])

pub row-over_two_rows : equation sample (element (plain Mtr) (spanning (codes "rowspan") ∷ child Mtd ∷ [])) in_text (deep ∷ cell ∷ []) []
    ≡ record { answer = beside; offsets = offset 0 (pos 0) (pos 0) ∷ offset 1 (pos 13108) (pos 0) ∷ []; marks = [] }
unfolding equation last_answers last_answer first second asking asking_of kid_pulls kid_axis stretch_axis pull_of first_asks second_asks asks_from planned outcome_by outcome_with cells_placed cell_x_of start_of spans_of cell_span written joined sum_to list_to halved
row-over_two_rows = refl

-- the cell of the second row stands in the second column
pub slots-beside : stretch_at (beside ∷ last (pos 21300) (pos 10650) ∷ []) 1 ≡ Slots (pos 34408 ∷ pos 13108 ∷ pos 21300 ∷ [])
unfolding stretch_at width_over span_share_of sum_to list_to
slots-beside = refl

-- the deep cell lacks 8768, by which the second row is deeper
pub table-over_two_rows : equation sample (element (plain Mtable) (child Mtr ∷ child Mtr ∷ [])) in_text
    (beside ∷ last (pos 21300) (pos 10650) ∷ []) (beside ∷ last (pos 34408) (pos 17204) ∷ [])
    ≡ made (box (pos 34408) (pos 35872) (pos 27680) (pos 35872) (pos 27680) (pos 17204)) (pos 0)
    (offset 0 (pos 0) (neg_ℤ (pos 17376)) ∷ offset 1 (pos 0) (pos 10016) ∷ []) []
unfolding equation last_answers last_answer first second asking asking_of kid_pulls kid_axis stretch_axis pull_of first_asks second_asks asks_from planned outcome_by outcome_with size_of stretch_at table_rows table_columns width_over span_share_of height_over table_ascent_of baseline_of top_of_row start_of sum_to constant_of scale_of rounded list_to halved
table-over_two_rows = refl

-- ---- a whole tree: a fraction of two spaces

abbrev top : Head
top = head_with Mspace (given (codes "height") (codes "8px") ∷ given (codes "width") (codes "6px") ∷ [])

abbrev bottom : Head
bottom = head_with Mspace (given (codes "height") (codes "8px") ∷ [])

abbrev node : Head → List Node → Node
node head children = roll-Node record { head = head; children = children }

abbrev tree : Node
tree = node (head_of Math) (node (head_with Mfrac []) (node top [] ∷ node bottom [] ∷ []) ∷ [])

layered : (head : Head) (children : List Node) → subtree sample (node head children) ≡ over sample head (map (subtree sample) children)
unfolding subtree
layered head children = fold-roll-Node Subtree (λ layer. over sample layer.head layer.children) (record { head = head; children = children })

-- the same, without the fold
abbrev spread : Subtree
spread = over sample (head_of Math) (over sample (head_with Mfrac []) (over sample top [] ∷ over sample bottom [] ∷ []) ∷ [])

tree_is : subtree sample tree ≡ spread
tree_is =
    layered (head_of Math) (node (head_with Mfrac []) (node top [] ∷ node bottom [] ∷ []) ∷ [])
    ∙ ap (λ (s : Subtree). over sample (head_of Math) (s ∷ [])) (layered (head_with Mfrac []) (node top [] ∷ node bottom [] ∷ []))
    ∙ (λ i. over sample (head_of Math) (over sample (head_with Mfrac []) (layered top [] i ∷ layered bottom [] i ∷ []) ∷ []))

spread_laid : spread.lay in_text ≡ made (box (pos 8192) (pos 14592) (pos 5600) (pos 14592) (pos 5600) (pos 4096)) (pos 0) (offset 0 (pos 0) (pos 0) ∷ []) []
unfolding lay_by equation last_answers last_answer first second asking asking_of kid_pulls kid_axis kid_style stretch_axis pull_of first_asks second_asks asks_from planned outcome_by outcome_with space_outcome row_frame row_in accent_of offset_of room_of ahead_of advance_of sum_to list_to thickness_of size_of with_rule_of lower_of placed_of centred_of raised joined rule_shifts_of clear_shift_of rule_lengths_of constant_of percent_of scale_of rounded halved facts_over laid_as is_valid flow_by is_space_like core_below child_style_of by_attributes by_place by_name by_level by_direction by_display by_size levels_of is_compact_in is_cramped_in space_of side_of absolute_in length_of trimmed is_negative behind_sign number_of digits_in_front behind_digits fraction_of unit_at unit_of resolved unit_size
spread_laid = refl

pub tree-fraction_of_spaces : lay sample tree in_text
    ≡ made (box (pos 8192) (pos 14592) (pos 5600) (pos 14592) (pos 5600) (pos 4096)) (pos 0) (offset 0 (pos 0) (pos 0) ∷ []) []
unfolding lay
tree-fraction_of_spaces = ap (λ (s : Subtree). s.lay in_text) tree_is ∙ spread_laid
