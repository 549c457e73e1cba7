-- An element whose children are laid out, and what its equation makes an outcome of.
use Rattle.std.specs.Prelude.{ℕ, ℤ, pos, ◌+ℤ◌, nat_eq, Bool, false, not, ◌&&◌, ◌||◌, if◌then◌else◌, List, [], length, map, is_some, slice_get, slice_index_or}
use Rattle.std.specs.Option.{option_map_or}
use Rattle.fixed_units.specs.Sums.{list_to}
use Rattle.fixed_units.specs.declared.boxes.MathBox.{MathBox}
use Rattle.font_metrics.specs.Metrics.{MetricsValue}
use Rattle.font_metrics.specs.declared.mark.Mark.{Mark}
use Rattle.embellished.specs.Fences.{leading}
use Rattle.embellished.specs.Kinds.{is_led_by_its_base}
use Rattle.embellished.specs.Seen.{Seen}
use Rattle.row_stretch.specs.Equation.{row_of}
use Rattle.row_stretch.specs.declared.parts.Row.{Row}
use Rattle.row_stretch.specs.declared.parts.RowKid.{RowKid}
use Rattle.span_tables.specs.declared.cells.CellSpan.{CellSpan}
use Rattle.style_scope.specs.Sizes.{size_of}
use Rattle.layout_model.specs.Answers.{no_answer}
use Rattle.layout_model.specs.Direction.{turned}
use Rattle.layout_model.specs.declared.context.Context.{Context}
use Rattle.layout_model.specs.declared.outcome.Answer.{Answer}
use Rattle.layout_model.specs.declared.outcome.Offset.{Offset}
use Rattle.layout_model.specs.declared.outcome.Outcome.{Outcome}

-- an element in its context, over the answer of each child in flow
pub record Element : Type 0 where
  pub metrics : MetricsValue
  pub seen : Seen
  pub context : Context
  pub kids : List Answer

-- its font size
abbrev pub font : Element → ℤ
font e = size_of e.metrics e.context.style

abbrev pub answer_at : Element → ℕ → Answer
answer_at e index = slice_index_or e.kids index no_answer

abbrev pub frame_at : Element → ℕ → MathBox
frame_at e index = (answer_at e index).frame

abbrev pub frames_of : Element → List MathBox
frames_of e = map (λ answer. answer.frame) e.kids

-- ---- spaces round an operator

-- the place of the child that leads to the core of an embellished element: that of the base, or
-- that of the only child that isn't space-like
abbrev pub lead_place : Seen → ℕ
lead_place seen = if is_led_by_its_base seen.facts.laid then 0 else leading seen.kids

-- whose spaces stand round the element: those of the child that leads to its core, where it has one
abbrev pub spaces_of : Element → Answer
spaces_of e = if is_some e.seen.facts.core then answer_at e (lead_place e.seen) else no_answer

-- ---- outcomes

abbrev pub offset : ℕ → ℤ → ℤ → Offset
offset kid x y = record { kid = kid; x = x; y = y }

-- an element with this box, its children at these places, and these marks
unfoldable pub outcome_with : Element → MathBox → List ℤ → List CellSpan → List Offset → List Mark
    → Outcome
outcome_with e frame cells spans offsets marks = record {
  answer = record {
    frame = frame;
    before = (spaces_of e).before;
    after = (spaces_of e).after;
    cells = cells;
    spans = spans;
  };
  offsets = offsets;
  marks = marks;
}

abbrev pub outcome : Element → MathBox → List Offset → List Mark → Outcome
outcome e frame offsets marks = outcome_with e frame [] [] offsets marks

-- the child at a place in a box, in the direction of the element
abbrev pub placed_in : Element → MathBox → ℕ → ℤ → ℤ → Offset
placed_in e frame kid x y = offset kid
    (turned e.context.style.rtl frame.width (frame_at e kid).width x) y

-- ---- the children in a row

abbrev pub is_embellished_kid : Seen → ℕ → Bool
is_embellished_kid seen index = option_map_or (λ kid. is_some kid.facts.core)
    (slice_get seen.kids index) (false)

abbrev pub row_kid : Element → ℕ → RowKid
row_kid e index =
    let answer = answer_at e index in
    record {
      frame = answer.frame;
      before = answer.before;
      after = answer.after;
      embellished = is_embellished_kid e.seen index;
    }

abbrev pub row_kids : Element → List RowKid
row_kids e = list_to (length e.seen.kids) (row_kid e)

-- the root is the element whose id is 1
abbrev pub is_root : Seen → Bool
is_root seen = nat_eq seen.head.id.0 1

-- a row shows the spaces of its operators, unless it is an operator itself; the root always does
abbrev pub shows_spaces : Seen → Bool
shows_spaces seen = is_root seen || not (is_some seen.facts.core)

unfoldable pub row_in : Element → Row
row_in e = row_of (shows_spaces e.seen) (row_kids e)

-- where a child begins in a row, in the direction of the element
abbrev pub row_x : Element → Row → ℕ → ℤ
row_x e row kid = turned e.context.style.rtl row.frame.width (frame_at e kid).width
    (slice_index_or row.offsets kid (pos 0))

abbrev pub along_row : Element → Row → ℤ → ℤ → ℕ → Offset
along_row e row start y kid = offset kid (start +ℤ row_x e row kid) y

-- the children of a row that begins at a start, with its baseline so far below that of the element
abbrev pub along : Element → Row → ℤ → ℤ → List Offset
along e row start y = list_to (length e.seen.kids) (along_row e row start y)

-- the box of a row: from right to left the accent of an only child is where that stands
unfoldable pub row_frame : Element → Row → MathBox
row_frame e row =
    if e.context.style.rtl && nat_eq (length e.seen.kids) 1
    then record row.frame { accent = row_x e row 0 +ℤ (frame_at e 0).accent }
    else row.frame
