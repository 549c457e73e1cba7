-- How each kind of element is laid out over the answers of its children: one arm a kind, which
-- names its equation (MathML Core 3).
use Rattle.std.specs.Prelude.{ℕ, ◌+◌, ◌*◌, ◌-◌, ◌/◌, ◌%◌, nat_eq, nat_le, ℤ, pos, ◌-ℤ◌, Bool, true, false, if◌then◌else◌, codes, List, [], ◌∷◌, length, map, Option, Some, None, option_map, slice_get, slice_index_or}
use Rattle.std.specs.Int.{int_max}
use Rattle.std.specs.Option.{option_and_then, option_map_or}
use Rattle.embellished.specs.declared.facts.Core.{Core}
use Rattle.css_lengths.specs.Lengths.{length_of, resolved}
use Rattle.fixed_units.specs.Sums.{list_to}
use Rattle.fixed_units.specs.declared.boxes.MathBox.{MathBox}
use Rattle.font_metrics.specs.Metrics.{constant_of, ex_of}
use Rattle.font_metrics.specs.declared.constants.ConstName.TheVariants.{FractionRuleThickness}
use Rattle.font_metrics.specs.declared.corner.Corner.{Corner}
use Rattle.font_metrics.specs.declared.corner.Corner.TheVariants.{TopRight, TopLeft, BottomRight, BottomLeft}
use Rattle.font_metrics.specs.declared.mark.Mark.{Mark}
use Rattle.fractions.specs.Placing.{fraction_of}
use Rattle.fractions.specs.declared.parts.Fraction.{Fraction}
use Rattle.math_tables.specs.Cells.{cell_of, cell_start_of}
use Rattle.math_tables.specs.Placing.{row_of_cells_of, row_of_slots_of, row_offsets_of, table_frame_of, table_width_of}
use Rattle.math_tree.specs.Attributes.{value_of}
use Rattle.math_tree.specs.declared.kind.Kind.{Kind}
use Rattle.math_tree.specs.declared.kind.Kind.TheVariants.{Merror, Mfrac, Mi, Mmultiscripts, Mn, Mo, Mover, Mpadded, Mroot, Ms, Mspace, Msqrt, Msub, Msubsup, Msup, Mtable, Mtd, Mtext, Mtr, Munder, Munderover}
use Rattle.multiscripts.specs.Placing.{multi_of}
use Rattle.multiscripts.specs.declared.parts.Multi.{Multi}
use Rattle.multiscripts.specs.declared.parts.Pair.{Pair}
use Rattle.op_dictionary.specs.declared.operator.Axis.{Axis}
use Rattle.op_dictionary.specs.declared.operator.Axis.TheVariants.{Inline}
use Rattle.radicals.specs.Placing.{square_root_of, root_with_index_of}
use Rattle.radicals.specs.declared.parts.Radical.{Radical}
use Rattle.row_stretch.specs.declared.parts.Row.{Row}
use Rattle.scripts.specs.Beside.{sub_of, sup_of, sub_sup_of}
use Rattle.scripts.specs.Limits.{under_over_of}
use Rattle.scripts.specs.declared.parts.Inked.{Inked}
use Rattle.scripts.specs.declared.parts.KernFrom.{KernFrom}
use Rattle.scripts.specs.declared.parts.LimitCase.{LimitCase}
use Rattle.scripts.specs.declared.parts.LimitCase.TheVariants.{Large, Stretchy, Plain}
use Rattle.scripts.specs.declared.parts.Limits.{Limits}
use Rattle.scripts.specs.declared.parts.Spot.{Spot}
use Rattle.token_boxes.specs.Operator.{operator_of}
use Rattle.token_boxes.specs.Space.{space_of}
use Rattle.style_scope.specs.Sizes.{size_of}
use Rattle.token_boxes.specs.Token.{leaf, token_glyph_of, token_of}
use Rattle.token_boxes.specs.declared.leaf.Leaf.{Leaf}
use Rattle.layout_model.specs.Contexts.{is_true, kid_axis, kid_style, pull_of}
use Rattle.layout_model.specs.Direction.{turned, turned_corner, turned_mark, x_of}
use Rattle.layout_model.specs.Elements.{Element, along, font, frame_at, frames_of, offset, outcome, outcome_with, placed_in, row_frame, row_in}
use Rattle.layout_model.specs.Questions.{base_properties, has_moved_limits}
use Rattle.layout_model.specs.Rows.{error_of, border, padded_of, padded_start, padded_rise}
use Rattle.layout_model.specs.Tables.{spanned, spans_of, table_columns, table_rows}
use Rattle.layout_model.specs.declared.context.Stretch.{Stretch}
use Rattle.layout_model.specs.declared.context.Stretch.TheVariants.{Columns, Slots}
use Rattle.layout_model.specs.declared.outcome.Offset.{Offset}
use Rattle.layout_model.specs.declared.outcome.Outcome.{Outcome}

-- ---- leaves

abbrev pub leaf_outcome : Leaf → Outcome
leaf_outcome leaf = record {
  answer = record {
    frame = leaf.frame;
    before = leaf.before;
    after = leaf.after;
    cells = [];
    spans = [];
  };
  offsets = [];
  marks = leaf.marks;
}

unfoldable pub token_outcome : Element → Outcome
token_outcome e = leaf_outcome (token_of e.metrics e.seen.head (font e))

abbrev pub operator_with : Element → Core → Outcome
operator_with e core =
    leaf_outcome (operator_of e.metrics e.seen.head core e.context.style (font e) e.context.form
    (pull_of e.context.stretch))

-- an operator has a core of its own
unfoldable pub operator_outcome : Element → Outcome
operator_outcome e = option_map_or (operator_with e) e.seen.facts.core (token_outcome e)

unfoldable pub space_outcome : Element → Outcome
space_outcome e = leaf_outcome (leaf (space_of e.metrics e.seen.head (font e)) [])

-- ---- rows

abbrev pub row_outcome : Element → Outcome
row_outcome e = outcome e (row_frame e (row_in e)) (along e (row_in e) (pos 0) (pos 0)) []

abbrev pub error_outcome : Element → Outcome
error_outcome e = outcome e (error_of (row_in e).frame) (along e (row_in e) border (pos 0)) []

abbrev pub padded_outcome : Element → Outcome
padded_outcome e =
    let attributes = e.seen.head.attributes in
    outcome e (padded_of e.metrics (font e) attributes (row_in e).frame)
    (along e (row_in e) (padded_start e.metrics (font e) attributes) (pos 0
    -ℤ padded_rise e.metrics (font e) attributes)) []

-- the surd, which ends where the base begins, and the rule over a base of this width, in the
-- direction of the element
abbrev pub root_marks : Element → ℤ → Radical → List Mark
root_marks e base root =
    turned_mark e.context.style.rtl root.frame.width (root.base.x -ℤ x_of root.surd) root.surd
    ∷ turned_mark e.context.style.rtl root.frame.width base root.rule ∷ []

abbrev pub root_sign_over : Element → Radical → Outcome
root_sign_over e root =
    let row = row_in e in
    outcome e root.frame (along e row
    (turned e.context.style.rtl root.frame.width row.frame.width root.base.x) root.base.y)
    (root_marks e row.frame.width root)

abbrev pub square_root_outcome : Element → Outcome
square_root_outcome e = root_sign_over e
    (square_root_of e.metrics (row_in e).frame e.context.style.display (font e))

abbrev pub cell_outcome : Element → Outcome
cell_outcome e = outcome e (cell_of e.metrics (row_in e).frame (font e))
    (along e (row_in e) (cell_start_of (font e)) (pos 0)) []

-- ---- fractions and roots

-- the thickness of the rule: that of the attribute, of which a percentage is of the font's own, or
-- else the font's own; it is never negative
unfoldable pub thickness_of : Element → ℤ
thickness_of e =
    let own = constant_of e.metrics FractionRuleThickness (font e) in
    int_max (pos 0) (option_map_or
    (λ length. resolved length (font e) (ex_of e.metrics (font e)) own)
    (option_and_then length_of (value_of (codes "linethickness") e.seen.head.attributes)) own)

abbrev pub marks_if : Option Mark → List Mark
marks_if None = []
marks_if (Some mark) = mark ∷ []

abbrev pub over_and_under : Element → Fraction → Outcome
over_and_under e fraction =
    outcome e fraction.frame (offset 0 fraction.top.x fraction.top.y
    ∷ offset 1 fraction.bottom.x fraction.bottom.y ∷ []) (marks_if fraction.rule)

abbrev pub fraction_outcome : Element → Outcome
fraction_outcome e = over_and_under e
    (fraction_of e.metrics (frame_at e 0) (frame_at e 1) (thickness_of e) e.context.style.display
    (font e))

abbrev pub with_index : Element → Radical → Outcome
with_index e root =
    outcome e root.frame
    (placed_in e root.frame 0 root.base.x root.base.y
    ∷ placed_in e root.frame 1 root.index.x root.index.y ∷ [])
    (root_marks e (frame_at e 0).width root)

abbrev pub root_outcome : Element → Outcome
root_outcome e = with_index e
    (root_with_index_of e.metrics (frame_at e 0) (frame_at e 1) e.context.style.display (font e))

-- ---- scripts

-- whether the base is a large operator
abbrev pub has_large_base : Element → Bool
has_large_base e = option_map_or (λ base. base.largeop) (base_properties e.metrics e.seen e.context)
    false

-- the corner of a child in flow that shows one glyph alone, at its own font size, in the direction
-- of the element
unfoldable pub corner_at : Element → Corner → ℕ → Option Inked
corner_at e corner index =
    option_map (λ glyph. record {
      glyph = glyph;
      corner = turned_corner e.context.style.rtl corner;
      size = size_of e.metrics (kid_style e.metrics e.seen e.context.style index);
    })
    (option_and_then (λ kid. token_glyph_of e.metrics kid.head) (slice_get e.seen.kids index))

-- from left to right a subscript stands at the bottom right of its base, which stands at the top
-- left of it; a superscript at the top right, and its base at the bottom left
abbrev pub sub_corners : Element → KernFrom
sub_corners e = record {
  base_sub = corner_at e BottomRight 0;
  sub = corner_at e TopLeft 1;
  base_sup = None;
  sup = None;
}

abbrev pub sup_corners : Element → KernFrom
sup_corners e = record {
  base_sub = None;
  sub = None;
  base_sup = corner_at e TopRight 0;
  sup = corner_at e BottomLeft 1;
}

abbrev pub sub_sup_corners : Element → KernFrom
sub_sup_corners e = record {
  base_sub = corner_at e BottomRight 0;
  sub = corner_at e TopLeft 1;
  base_sup = corner_at e TopRight 0;
  sup = corner_at e BottomLeft 2;
}

abbrev pub sub_outcome : Element → Outcome
sub_outcome e =
    let scripted = sub_of e.metrics (frame_at e 0) (has_large_base e) (frame_at e 1) (sub_corners e)
    (font e) in
    outcome e scripted.frame
    (placed_in e scripted.frame 0 (pos 0) (pos 0)
    ∷ placed_in e scripted.frame 1 scripted.sub.x scripted.sub.y ∷ []) []

abbrev pub sup_outcome : Element → Outcome
sup_outcome e =
    let scripted = sup_of e.metrics (frame_at e 0) (has_large_base e) e.context.style.cramped
    (frame_at e 1) (sup_corners e) (font e) in
    outcome e scripted.frame
    (placed_in e scripted.frame 0 (pos 0) (pos 0)
    ∷ placed_in e scripted.frame 1 scripted.sup.x scripted.sup.y ∷ []) []

abbrev pub sub_sup_outcome : Element → Outcome
sub_sup_outcome e =
    let scripted = sub_sup_of e.metrics (frame_at e 0) (has_large_base e) e.context.style.cramped
    (frame_at e 1) (frame_at e 2)
    (sub_sup_corners e) (font e) in
    outcome e scripted.frame
    (placed_in e scripted.frame 0 (pos 0) (pos 0)
    ∷ placed_in e scripted.frame 1 scripted.sub.x scripted.sub.y
    ∷ placed_in e scripted.frame 2 scripted.sup.x scripted.sup.y ∷ []) []

-- ---- scripts in pairs

-- scripts stand behind the base two and two, the subscript first; those from the mark on are
-- prescripts
abbrev pub pair_at : Element → ℕ → Pair
pair_at e index = record {
  sub = frame_at e (2 * index + 1);
  sup = frame_at e (2 * index + 2);
  before = nat_le e.seen.prescripts (2 * index + 1);
}

unfoldable pub pairs_of : Element → List Pair
pairs_of e = list_to ((length e.seen.kids - 1) / 2) (pair_at e)

abbrev pub spot_at : List Spot → ℕ → Spot
spot_at spots index = slice_index_or spots index (record { x = pos 0; y = pos 0 })

-- where the child at a place stands
unfoldable pub spot_of : Multi → ℕ → Spot
spot_of multi place =
    if nat_eq place 0 then multi.base
    else if nat_eq (place % 2) 1 then spot_at multi.subs (place / 2)
    else spot_at multi.sups (place / 2 - 1)

abbrev pub offset_in : Element → Multi → ℕ → Offset
offset_in e multi kid = placed_in e multi.frame kid (spot_of multi kid).x (spot_of multi kid).y

abbrev pub with_pairs : Element → Multi → Outcome
with_pairs e multi = outcome e multi.frame (list_to (length e.seen.kids) (offset_in e multi)) []

unfoldable pub multi_outcome : Element → Outcome
multi_outcome e =
    with_pairs e (multi_of e.metrics (frame_at e 0) (has_large_base e) e.context.style.cramped
    (pairs_of e) (font e))

-- ---- limits

abbrev pub is_inline : Option Axis → Bool
is_inline (Some Inline) = true
is_inline other = false

unfoldable pub limit_case : Element → LimitCase
limit_case e =
    if has_large_base e then Large
    else if is_inline (kid_axis e.metrics e.seen e.context.form 0) then Stretchy
    else Plain

abbrev pub limits_in : Element → Option MathBox → Option MathBox → Limits
limits_in e under over =
    let attributes = e.seen.head.attributes in
    under_over_of e.metrics (frame_at e 0) under over (limit_case e)
    (is_true (codes "accent") attributes) (is_true (codes "accentunder") attributes) (font e)

abbrev pub under_outcome : Element → Outcome
under_outcome e =
    let limits = limits_in e (Some (frame_at e 1)) None in
    outcome e limits.frame (offset 0 limits.base.x limits.base.y
    ∷ offset 1 limits.under.x limits.under.y ∷ []) []

abbrev pub over_outcome : Element → Outcome
over_outcome e =
    let limits = limits_in e None (Some (frame_at e 1)) in
    outcome e limits.frame (offset 0 limits.base.x limits.base.y
    ∷ offset 1 limits.over.x limits.over.y ∷ []) []

abbrev pub under_over_outcome : Element → Outcome
under_over_outcome e =
    let limits = limits_in e (Some (frame_at e 1)) (Some (frame_at e 2)) in
    outcome e limits.frame
    (offset 0 limits.base.x limits.base.y ∷ offset 1 limits.under.x limits.under.y
    ∷ offset 2 limits.over.x limits.over.y ∷ []) []

-- limits, or where they are moved beside the base, scripts
abbrev pub unless_moved : Element → Outcome → Outcome → Outcome
unless_moved e limits scripts = if has_moved_limits e.metrics e.seen e.context then scripts else
    limits

-- ---- tables

abbrev pub widths_of : Element → List ℤ
widths_of e = map (λ frame. frame.width) (frames_of e)

-- the cells of a row in their columns or slots; without them, each in a column as wide as itself
abbrev pub cells_in : Element → Stretch → Row
cells_in e (Columns (total ∷ widths)) = row_of_cells_of (frames_of e) widths total
cells_in e (Slots (total ∷ slots)) = row_of_slots_of (frames_of e) slots total
cells_in e other = row_of_cells_of (frames_of e) (widths_of e) (table_width_of (widths_of e))

unfoldable pub cells_placed : Element → Row
cells_placed e = cells_in e e.context.stretch

abbrev pub table_row_outcome : Element → Outcome
table_row_outcome e =
    outcome_with e (spanned (spans_of e) (cells_placed e).frame) (widths_of e) (spans_of e)
    (along e (cells_placed e) (pos 0) (pos 0)) []

abbrev pub row_at : List ℤ → ℕ → ℤ
row_at offsets index = slice_index_or offsets index (pos 0)

abbrev pub table_outcome : Element → Outcome
table_outcome e =
    let rows = table_rows e.kids in
    let offsets = row_offsets_of e.metrics rows (font e) in
    outcome e (table_frame_of e.metrics rows (table_columns e.kids) (font e))
    (list_to (length e.seen.kids) (λ index. offset index (pos 0) (row_at offsets index))) []

-- ---- one arm a kind

unfoldable pub outcome_by : Kind → Element → Outcome
outcome_by Merror e = error_outcome e
outcome_by Mfrac e = fraction_outcome e
outcome_by Mi e = token_outcome e
outcome_by Mmultiscripts e = multi_outcome e
outcome_by Mn e = token_outcome e
outcome_by Mo e = operator_outcome e
outcome_by Mover e = unless_moved e (over_outcome e) (sup_outcome e)
outcome_by Mpadded e = padded_outcome e
outcome_by Mroot e = root_outcome e
outcome_by Ms e = token_outcome e
outcome_by Mspace e = space_outcome e
outcome_by Msqrt e = square_root_outcome e
outcome_by Msub e = sub_outcome e
outcome_by Msubsup e = sub_sup_outcome e
outcome_by Msup e = sup_outcome e
outcome_by Mtable e = table_outcome e
outcome_by Mtd e = cell_outcome e
outcome_by Mtext e = token_outcome e
outcome_by Mtr e = table_row_outcome e
outcome_by Munder e = unless_moved e (under_outcome e) (sub_outcome e)
outcome_by Munderover e = unless_moved e (under_over_outcome e) (sub_sup_outcome e)
outcome_by other e = row_outcome e

-- the outcome of an element over the answers of its children
abbrev pub outcome_of : Element → Outcome
outcome_of e = outcome_by e.seen.facts.laid e
