-- The columns and rows of a table, whether a cell spans or not.
use Rattle.std.proofs.Common.{◌≡◌, ap, ℕ, ◌^◌, arith, lit≤, Bool, true, false, cond, List, length, map, All, ℤ}
use Rattle.fixed_units.specs.Boxes.{IsStored, farthest}
use Rattle.fixed_units.specs.Numbers.{IsWithin}
use Rattle.fixed_units.specs.Sums.{list_to}
use Rattle.fixed_units.specs.declared.boxes.MathBox.{MathBox}
use Rattle.fixed_units.proofs.Signed.{signed}
use Rattle.fixed_units.proofs.Within.{widened}
use Rattle.math_tables.specs.Placing.{HasHeights, IsColumn}
use Rattle.span_tables.specs.Heights.{IsRow, height_at, no_height}
use Rattle.span_tables.specs.Widths.{IsColumn as IsSpannedColumn}
use Rattle.span_tables.specs.declared.cells.RowHeight.{RowHeight}
use Rattle.layout_model.specs.Tables.{columns_over, has_spans, spanned_columns, spanned_row, table_columns, table_rows, with_height}
use Rattle.layout_model.specs.declared.outcome.Answer.{Answer}
use Rattle.outcomes.proofs.Lists.{All-at, All-list_to}

abbrev frame_of : Answer → MathBox
frame_of row = row.frame

-- ---- which kind

pub columns-spanned : (rows : List Answer) → has_spans rows ≡ true → table_columns rows ≡ spanned_columns rows
unfolding table_columns
columns-spanned rows e = ap (λ (b : Bool). cond b (spanned_columns rows) (columns_over rows)) e

pub columns-plain : (rows : List Answer) → has_spans rows ≡ false → table_columns rows ≡ columns_over rows
unfolding table_columns
columns-plain rows e = ap (λ (b : Bool). cond b (spanned_columns rows) (columns_over rows)) e

pub rows-spanned : (rows : List Answer) → has_spans rows ≡ true → table_rows rows ≡ list_to (length rows) (spanned_row rows)
unfolding table_rows
rows-spanned rows e = ap (λ (b : Bool). cond b (list_to (length rows) (spanned_row rows)) (map frame_of rows)) e

pub rows-plain : (rows : List Answer) → has_spans rows ≡ false → table_rows rows ≡ map frame_of rows
unfolding table_rows
rows-plain rows e = ap (λ (b : Bool). cond b (list_to (length rows) (spanned_row rows)) (map frame_of rows)) e

-- ---- how far they reach

pub stored_rows : (rows : List MathBox) → All IsStored rows → All HasHeights rows
stored_rows rows all = λ k d l. record {
  ascent = widened (2 ^ 44) (all k d l).ascent (lit≤ tt);
  descent = widened (2 ^ 44) (all k d l).descent (lit≤ tt);
}

pub stored_columns : (widths : List ℤ) → All (IsWithin farthest) widths → All IsColumn widths
stored_columns widths all = λ k d l. widened (2 ^ 36) (all k d l) (lit≤ tt)

pub spanned_columns_in : (widths : List ℤ) → All IsSpannedColumn widths → All IsColumn widths
spanned_columns_in widths all = λ k d l.
    let column = all k d l in
    record { low = omega (arith, signed, column.low); high = omega (arith, signed, column.high) }

no_row : IsRow no_height
no_row = record {
  ascent = record { low = omega (arith, signed); high = omega (arith, signed) };
  low = omega (arith, signed);
  high = omega (arith, signed);
}

heights_at : (heights : List RowHeight) (index : ℕ) → All IsRow heights → IsRow (height_at heights index)
heights_at heights index all = All-at IsRow heights index no_height no_row all

pub rows_with_heights : (n : ℕ) (frames : ℕ → MathBox) (heights : List RowHeight) → All IsRow heights
    → All HasHeights (list_to n (λ index. with_height (frames index) (height_at heights index)))
rows_with_heights n frames heights all =
    All-list_to HasHeights n (λ index. with_height (frames index) (height_at heights index)) (λ index l.
    let height = heights_at heights index all in
    record {
      ascent = widened (2 ^ 44) height.ascent (lit≤ tt);
      descent = record { low = omega (arith, signed, height.low); high = omega (arith, signed, height.high) };
    })
