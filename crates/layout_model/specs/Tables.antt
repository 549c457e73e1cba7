-- The rows of a table over their answers: the widths of its columns, and how its cells span.
use Rattle.std.specs.Prelude.{ℕ, ℤ, pos, nat_lt, Bool, ◌||◌, if◌then◌else◌, List, [], ◌∷◌, codes, length, map, take, slice_get, slice_index_or}
use Rattle.std.specs.List.{list_any}
use Rattle.std.specs.Option.{option_map_or}
use Rattle.fixed_units.specs.Sums.{list_to}
use Rattle.fixed_units.specs.declared.boxes.MathBox.{MathBox}
use Rattle.math_tables.specs.Columns.{columns_of}
use Rattle.math_tables.specs.Placing.{table_width_of}
use Rattle.math_tree.specs.Attributes.{value_of}
use Rattle.math_tree.specs.declared.attributes.Attribute.{Attribute}
use Rattle.span_tables.specs.Bounds.{most_columns, most_rows}
use Rattle.span_tables.specs.Heights.{height_at, row_height_of, span_heights_of}
use Rattle.span_tables.specs.Laws.{slots_at}
use Rattle.span_tables.specs.Spans.{span_of_text}
use Rattle.span_tables.specs.Standing.{first_columns_of}
use Rattle.span_tables.specs.Widths.{span_columns_of}
use Rattle.span_tables.specs.declared.cells.CellSpan.{CellSpan}
use Rattle.span_tables.specs.declared.cells.RowHeight.{RowHeight}
use Rattle.span_tables.specs.declared.cells.SpanCell.{SpanCell}
use Rattle.layout_model.specs.Answers.{no_answer}
use Rattle.layout_model.specs.Elements.{Element, frame_at}
use Rattle.layout_model.specs.declared.context.Stretch.{Stretch}
use Rattle.layout_model.specs.declared.context.Stretch.TheVariants.{Columns, Slots}
use Rattle.layout_model.specs.declared.outcome.Answer.{Answer}

-- ---- a row: what its cells span

-- what the attributes of a cell with this box ask for
abbrev pub span_over : List Attribute → MathBox → CellSpan
span_over attributes frame = record {
  columns = span_of_text (value_of (codes "columnspan") attributes) most_columns;
  rows = span_of_text (value_of (codes "rowspan") attributes) most_rows;
  ascent = frame.ascent;
  descent = frame.descent;
}

-- a cell that spans its own place alone
abbrev pub single : CellSpan
single = record { columns = 1; rows = 1; ascent = pos 0; descent = pos 0 }

-- what the cell at a place of a row spans
unfoldable pub cell_span : Element → ℕ → CellSpan
cell_span e index =
    option_map_or (λ kid. span_over kid.head.attributes (frame_at e index))
    (slice_get e.seen.kids index) single

abbrev pub is_spanning : CellSpan → Bool
is_spanning span = nat_lt 1 span.columns || nat_lt 1 span.rows

-- those of all its cells, where one of them spans more than its own place; else none
abbrev pub unless_single : List CellSpan → List CellSpan
unless_single spans = if list_any is_spanning spans then spans else []

unfoldable pub spans_of : Element → List CellSpan
spans_of e = unless_single (list_to (length e.seen.kids) (cell_span e))

-- where a cell spans, those over several rows don't count in the row's descent
abbrev pub spanned : List CellSpan → MathBox → MathBox
spanned [] frame = frame
spanned (span ∷ spans) frame =
    let height = row_height_of (span ∷ spans) in
    record frame { ascent = height.ascent; descent = height.descent }

-- ---- a table: its cells

-- whether some cell of the table spans more than its own place
abbrev pub has_spans : List Answer → Bool
has_spans rows = list_any (λ row. nat_lt 0 (length row.spans)) rows

-- the cell at a place of a row
abbrev pub cell_of_row : Answer → ℕ → SpanCell
cell_of_row row place = record {
  width = slice_index_or row.cells place (pos 0);
  span = slice_index_or row.spans place single;
}

abbrev pub cells_of_row : Answer → List SpanCell
cells_of_row row = list_to (length row.cells) (cell_of_row row)

abbrev pub cells_of_rows : List Answer → List (List SpanCell)
cells_of_rows rows = map cells_of_row rows

-- ---- its columns

-- the columns of a table in which no cell spans
abbrev pub columns_over : List Answer → List ℤ
columns_over rows = columns_of (map (λ row. row.cells) rows)

-- those of one in which a cell does
abbrev pub spanned_columns : List Answer → List ℤ
spanned_columns rows = let cells = cells_of_rows rows in span_columns_of cells
    (first_columns_of cells)

unfoldable pub table_columns : List Answer → List ℤ
table_columns rows = if has_spans rows then spanned_columns rows else columns_over rows

-- ---- what its rows are asked with

abbrev pub cells_at : List Answer → ℕ → List ℤ
cells_at rows index = (slice_index_or rows index no_answer).cells

-- the width of the whole table, and the columns of the row's own cells
abbrev pub columns_at : List Answer → ℕ → Stretch
columns_at rows index =
    let widths = columns_over rows in
    Columns (table_width_of widths ∷ take (length (cells_at rows index)) widths)

-- where a cell of the table spans, the width of the whole table, and the slots of the row's own
-- cells
unfoldable pub stretch_at : List Answer → ℕ → Stretch
stretch_at rows index =
    if has_spans rows then Slots (slots_at (cells_of_rows rows) index) else columns_at rows index

-- ---- its rows one under the other

abbrev pub height_of_row : MathBox → RowHeight
height_of_row frame = record { ascent = frame.ascent; descent = frame.descent }

-- the heights of rows of which the last one under each cell over several is as deep as that needs
abbrev pub spanned_heights : List Answer → List RowHeight
spanned_heights rows = span_heights_of (cells_of_rows rows)
    (map (λ row. height_of_row row.frame) rows)

abbrev pub with_height : MathBox → RowHeight → MathBox
with_height frame height = record frame { ascent = height.ascent; descent = height.descent }

abbrev pub spanned_row : List Answer → ℕ → MathBox
spanned_row rows index =
    with_height (slice_index_or rows index no_answer).frame (height_at (spanned_heights rows) index)

-- the boxes of the rows of a table, as high as they are in it
unfoldable pub table_rows : List Answer → List MathBox
table_rows rows =
    if has_spans rows then list_to (length rows) (spanned_row rows) else map (λ row. row.frame) rows
