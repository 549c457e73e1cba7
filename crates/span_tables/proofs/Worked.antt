-- Worked figures: the definitions compute them, and a wrong one is refused at its line.
--
-- A cell of the digit 1 at 16 px is 21300 wide, 18496 high and 8896 deep, padding included.
use Rattle.std.proofs.Common.{◌≡◌, refl, ℕ, List, [], ◌∷◌, Some, None, ℤ, pos, neg_ℤ}
use Rattle.std.specs.Prelude.{codes}
use Rattle.fixed_units.specs.Sums.{sum_to, list_to}
use Rattle.span_tables.specs.declared.cells.CellSpan.{CellSpan}
use Rattle.span_tables.specs.declared.cells.SpanCell.{SpanCell}
use Rattle.span_tables.specs.declared.cells.RowHeight.{RowHeight}
use Rattle.span_tables.specs.Heights.{height_over, row_height_of, span_heights_of}
use Rattle.span_tables.specs.Slots.{slots_of}
use Rattle.span_tables.specs.Spans.{written, span_of_text}
use Rattle.span_tables.specs.Standing.{first_columns_of}
use Rattle.span_tables.specs.Widths.{width_over, share_of, span_columns_of}

abbrev one : SpanCell
one = record { width = pos 21300; span = record { columns = 1; rows = 1; ascent = pos 18496; descent = pos 8896 } }

-- of a width, over columns and rows
abbrev over : ℤ → ℕ → ℕ → SpanCell
over width columns rows = record { width = width; span = record { columns = columns; rows = rows; ascent = pos 0; descent = pos 0 } }

-- ---- a wide cell over two columns: it lacks 64309 - 42600 = 21709
abbrev wide_table : List (List SpanCell)
wide_table = (over (pos 64309) 2 1 ∷ []) ∷ (one ∷ one ∷ []) ∷ []

firsts-wide : first_columns_of wide_table ≡ (0 ∷ []) ∷ (0 ∷ 1 ∷ []) ∷ []
firsts-wide = refl

columns-wide : span_columns_of wide_table ((0 ∷ []) ∷ (0 ∷ 1 ∷ []) ∷ []) ≡ pos 32155 ∷ pos 32154 ∷ []
unfolding list_to sum_to width_over share_of
columns-wide = refl

slots-wide : slots_of (over (pos 64309) 2 1 ∷ []) (0 ∷ []) (pos 32155 ∷ pos 32154 ∷ []) ≡ pos 64309 ∷ pos 0 ∷ pos 64309 ∷ []
unfolding sum_to width_over
slots-wide = refl

slots-under_wide : slots_of (one ∷ one ∷ []) (0 ∷ 1 ∷ []) (pos 32155 ∷ pos 32154 ∷ [])
    ≡ pos 64309 ∷ pos 0 ∷ pos 32155 ∷ pos 32155 ∷ pos 32154 ∷ []
unfolding sum_to width_over
slots-under_wide = refl

-- ---- a deep cell over two rows: it lacks 45056 - 36288 = 8768
abbrev deep : SpanCell
deep = record { width = pos 13108; span = record { columns = 1; rows = 2; ascent = pos 4096; descent = pos 45056 } }

abbrev deep_table : List (List SpanCell)
deep_table = (deep ∷ one ∷ []) ∷ (one ∷ []) ∷ []

-- the lower cell stands in the second column, beside the deep one
firsts-deep : first_columns_of deep_table ≡ (0 ∷ 1 ∷ []) ∷ (1 ∷ []) ∷ []
firsts-deep = refl

columns-deep : span_columns_of deep_table ((0 ∷ 1 ∷ []) ∷ (1 ∷ []) ∷ []) ≡ pos 13108 ∷ pos 21300 ∷ []
unfolding list_to sum_to width_over share_of
columns-deep = refl

slots-under_deep : slots_of (one ∷ []) (1 ∷ []) (pos 13108 ∷ pos 21300 ∷ []) ≡ pos 34408 ∷ pos 13108 ∷ pos 21300 ∷ []
unfolding sum_to width_over
slots-under_deep = refl

abbrev row : RowHeight
row = record { ascent = pos 18496; descent = pos 8896 }

heights-deep : span_heights_of deep_table (row ∷ row ∷ []) ≡ row ∷ record { ascent = pos 18496; descent = pos 17664 } ∷ []
unfolding sum_to height_over
heights-deep = refl

-- a cell over two rows counts upward alone
height-beside_deep : row_height_of (deep.span ∷ one.span ∷ []) ≡ row
height-beside_deep = refl

height-low : row_height_of (record { columns = 1; rows = 2; ascent = neg_ℤ (pos 3); descent = pos 9 } ∷ []) ≡ record { ascent = neg_ℤ (pos 3); descent = pos 0 }
height-low = refl

-- ---- further cases
-- a cell may run under one of an earlier row; its first column is never under one
firsts-overlap : first_columns_of ((over (pos 0) 1 1 ∷ over (pos 0) 1 3 ∷ []) ∷ (over (pos 0) 2 1 ∷ one ∷ []) ∷ (one ∷ one ∷ []) ∷ [])
    ≡ (0 ∷ 1 ∷ []) ∷ (0 ∷ 2 ∷ []) ∷ (0 ∷ 2 ∷ []) ∷ []
firsts-overlap = refl

-- a cell over more rows than there are covers those that are there; its lack goes to the last one
heights-past_end : span_heights_of ((over (pos 0) 1 5 ∷ record one { span = record { columns = 1; rows = 3; ascent = pos 0; descent = pos 50 } } ∷ []) ∷ [] ∷ [])
    (record { ascent = pos 1; descent = pos 2 } ∷ record { ascent = pos 3; descent = pos 4 } ∷ [])
    ≡ record { ascent = pos 1; descent = pos 2 } ∷ record { ascent = pos 3; descent = pos 45 } ∷ []
unfolding sum_to height_over
heights-past_end = refl

-- a column that no cell spans alone begins at 0, and one whose widest cell is negative begins there
columns-empty : span_columns_of ((over (pos 7) 3 1 ∷ []) ∷ (over (neg_ℤ (pos 2)) 1 1 ∷ []) ∷ []) ((0 ∷ []) ∷ (0 ∷ []) ∷ [])
    ≡ pos 1 ∷ pos 3 ∷ pos 3 ∷ []
unfolding list_to sum_to width_over share_of
columns-empty = refl

-- lacks in document order: the second cell finds what the first has got
columns-in_order : span_columns_of ((over (pos 10) 2 1 ∷ []) ∷ (over (pos 14) 3 1 ∷ []) ∷ []) ((0 ∷ []) ∷ (0 ∷ []) ∷ [])
    ≡ pos 7 ∷ pos 6 ∷ pos 1 ∷ []
unfolding list_to sum_to width_over share_of
columns-in_order = refl

span-digits : span_of_text (Some (codes "0012")) 64 ≡ 12
unfolding written
span-digits = refl

span-above : span_of_text (Some (codes "9999")) 64 ≡ 64
unfolding written
span-above = refl

span-zero : span_of_text (Some (codes "0000")) 64 ≡ 1
unfolding written
span-zero = refl

span-sign : span_of_text (Some (codes "+2")) 64 ≡ 1
unfolding written
span-sign = refl

span-long : span_of_text (Some (codes "00002")) 64 ≡ 1
unfolding written
span-long = refl

span-absent : span_of_text None 1000 ≡ 1
span-absent = refl
