-- How far the columns of a table reach, and the slots of its rows.
use Rattle.std.proofs.Common.{◌≡◌, sym, ap, subst, ℕ, zero, suc, ◌+◌, ◌*◌, ◌^◌, ◌<◌, ◌≤◌, arith, inl, inr, ◌⊎◌, List, [], ◌∷◌, length, get_or, ℤ}
use Rattle.std.specs.List.{All}
use Rattle.std.proofs.lemmas.List.{get_or_past}
use Rattle.std.proofs.lemmas.List.Elements.{All-cons, All-head, All-nil, All-tail}
use Rattle.std.proofs.lemmas.Bool.{cases_lt}
use Rattle.fixed_units.specs.Numbers.{IsWithin}
use Rattle.fixed_units.proofs.Sums.{length-list_to}
use Rattle.fixed_units.proofs.Within.{widened}
use Rattle.span_tables.specs.declared.cells.SpanCell.{SpanCell}
use Rattle.span_tables.specs.declared.standing.Standing.{Standing}
use Rattle.span_tables.specs.Bounds.{HasSpan, IsStored, cell_count, most_cells, most_columns}
use Rattle.span_tables.specs.Largest.{IsStandingStored}
use Rattle.span_tables.specs.Laws.{cells_at, firsts_at, slots_at}
use Rattle.span_tables.specs.Slots.{AreInside, slots_along, slots_of}
use Rattle.span_tables.specs.Standing.{first_columns_of, reach, stand_rows}
use Rattle.span_tables.specs.Widths.{IsColumn, base_width_of, base_widths_of, span_columns_of, widened_all, widened_by, width_over}
use Rattle.span_tables.proofs.Fitted.{length-span_columns_of}
use Rattle.span_tables.proofs.Fitting.{length-widened_by}
use Rattle.span_tables.proofs.Free.{cells_inside}
use Rattle.span_tables.proofs.Growing.{base_in, stored_below, widened_in}
use Rattle.span_tables.proofs.Shapes.{few_columns, one_each}
use Rattle.span_tables.proofs.Shares.{width_over_in}

-- ---- columns
columns_all : (widths : List ℤ) (cells : List Standing) → All IsColumn widths → All IsStandingStored cells → reach cells ≤ length widths
    → All IsColumn (widened_all widths cells)
columns_all widths [] all stored inside = all
columns_all widths (at ∷ cells) all stored inside =
    let here = All-head IsStandingStored at cells stored in
    let same = length-widened_by widths at in
    columns_all (widened_by widths at) cells (widened_in widths at all (omega arith) here.span here.stored) (All-tail IsStandingStored at cells stored) (omega arith)

pub columns_within : (rows : List (List SpanCell)) → All (All HasSpan) rows → All (All IsStored) rows
    → All IsColumn (span_columns_of rows (first_columns_of rows))
columns_within rows spans stored =
    let firsts = first_columns_of rows in
    let cells = stand_rows 0 rows firsts in
    let all = stored_below 0 rows firsts spans stored in
    let long = length-list_to (reach cells) (base_width_of cells) in
    columns_all (base_widths_of cells) cells (base_in cells all) all (omega arith)

pub columns_few : (rows : List (List SpanCell)) → All (All HasSpan) rows → cell_count rows ≤ most_cells
    → length (span_columns_of rows (first_columns_of rows)) ≤ 2 ^ 22
columns_few rows spans few =
    let long = length-span_columns_of rows (first_columns_of rows) in
    let most = few_columns rows spans in
    omega arith

-- ---- slots
along_within : (widths : List ℤ) (cells : List SpanCell) (firsts : List ℕ) → All IsColumn widths → length widths ≤ 2 ^ 22
    → AreInside (length widths) cells firsts → All (IsWithin (2 ^ 60)) (slots_along widths cells firsts)
along_within widths [] firsts all few inside = All-nil (IsWithin (2 ^ 60))
along_within widths (cell ∷ cells) [] all few inside = All-nil (IsWithin (2 ^ 60))
along_within widths (cell ∷ cells) (first ∷ firsts) all few inside =
    let here = inside.inside 0 cell (omega arith) in
    let each = inside.each in
    let x = widened (2 ^ 60) (width_over_in widths 0 first all (omega arith)) (omega arith) in
    let wide = widened (2 ^ 60) (width_over_in widths first cell.span.columns all (omega arith)) (omega arith) in
    let rest = along_within widths cells firsts all few record { each = omega arith; inside = λ place d l. inside.inside (suc place) d (omega arith) } in
    All-cons (IsWithin (2 ^ 60)) (width_over widths 0 first) (width_over widths first cell.span.columns ∷ slots_along widths cells firsts) x
    (All-cons (IsWithin (2 ^ 60)) (width_over widths first cell.span.columns) (slots_along widths cells firsts) wide rest)

row_within : (widths : List ℤ) (cells : List SpanCell) (firsts : List ℕ) → All IsColumn widths → length widths ≤ 2 ^ 22
    → AreInside (length widths) cells firsts → All (IsWithin (2 ^ 60)) (slots_of cells firsts widths)
row_within widths cells firsts all few inside =
    All-cons (IsWithin (2 ^ 60)) (width_over widths 0 (length widths)) (slots_along widths cells firsts)
    (widened (2 ^ 60) (width_over_in widths 0 (length widths) all (omega arith)) (omega arith))
    (along_within widths cells firsts all few inside)

-- a row past the last one has no cells
pub inside_at : (rows : List (List SpanCell)) (row : ℕ)
    → AreInside (length (span_columns_of rows (first_columns_of rows))) (cells_at rows row) (firsts_at (first_columns_of rows) row)
inside_at rows row = by (cases_lt row (length rows))
  where
    firsts : List (List ℕ)
    firsts = first_columns_of rows

    none : length rows ≤ row → AreInside (length (span_columns_of rows firsts)) (cells_at rows row) (firsts_at firsts row)
    none past =
        let no_cells = get_or_past rows row [] past in
        let no_firsts = (one_each rows).cell_count row in
        record {
          each = no_firsts;
          inside = λ place d l. absurd (let long = ap (λ (cells : List SpanCell). length cells) no_cells in omega arith);
        }

    by : (row < length rows) ⊎ (length rows ≤ row) → AreInside (length (span_columns_of rows firsts)) (cells_at rows row) (firsts_at firsts row)
    by (inl l) =
        subst (λ (n : ℕ). AreInside n (cells_at rows row) (firsts_at firsts row)) (sym (length-span_columns_of rows firsts)) (cells_inside rows row l)
    by (inr past) = none past

pub slots_within : (rows : List (List SpanCell)) (row : ℕ) → All (All HasSpan) rows → All (All IsStored) rows → cell_count rows ≤ most_cells
    → All (IsWithin (2 ^ 60)) (slots_at rows row)
slots_within rows row spans stored few =
    row_within (span_columns_of rows (first_columns_of rows)) (cells_at rows row) (firsts_at (first_columns_of rows) row)
    (columns_within rows spans stored) (columns_few rows spans few) (inside_at rows row)
