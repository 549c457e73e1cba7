-- In the end each cell of a table fits the columns that it covers.
use Rattle.std.proofs.Common.{◌≡◌, ◌∙◌, refl, sym, subst, ℕ, zero, suc, ◌<◌, arith, Bool, true, false, cond, List, [], ◌∷◌, length, get_or, map, unwrap_or, fold, ℤ, pos, ◌≤ℤ◌}
use Rattle.std.specs.Int.{int_max}
use Rattle.std.specs.List.{All, filter}
use Rattle.std.proofs.lemmas.Bool.{false≢true, and_from, eq-eqb}
use Rattle.std.proofs.lemmas.Int.{fold-int_max_bounds}
use Rattle.std.proofs.lemmas.List.Elements.{All-head, All-tail, All-cons}
use Rattle.fixed_units.proofs.Sums.{length-list_to}
use Rattle.span_tables.proofs.Listed.{get_or-list_to}
use Rattle.span_tables.specs.declared.cells.SpanCell.{SpanCell}
use Rattle.span_tables.specs.declared.standing.Standing.{Standing}
use Rattle.span_tables.specs.Bounds.{HasSpan}
use Rattle.span_tables.specs.Laws.{Fits}
use Rattle.span_tables.specs.Standing.{reach, stand_rows, first_columns_of}
use Rattle.span_tables.specs.Widths.{is_alone, widths_alone, largest, base_width_of, base_widths_of, widened_by, widened_all, span_columns_of}
use Rattle.span_tables.proofs.Fitting.{IsReady, fits_all, length-widened_by}
use Rattle.span_tables.proofs.Growing.{of_rows}
use Rattle.span_tables.proofs.Places.{end_within}

-- no width is larger than the largest
largest_bound : (widths : List ℤ) → All (λ (w : ℤ). w ≤ℤ unwrap_or (largest widths) (pos 0)) widths
largest_bound [] = λ k d h. absurd (omega arith)
largest_bound (width ∷ widths) =
    let bounds = fold-int_max_bounds width widths (fold int_max width widths) refl in
    All-cons (λ (w : ℤ). w ≤ℤ fold int_max width widths) width widths bounds.0 bounds.1

-- what holds of the widths of cells alone in a column holds of such a cell's width
alone_has : (P : ℤ → Type 0) (cells : List Standing) (column i : ℕ) (d : Standing) → i < length cells → is_alone column (get_or cells i d) ≡ true
    → All P (widths_alone cells column) → P (get_or cells i d).cell.width
alone_has P [] column i d l is all = absurd (omega arith)
alone_has P (at ∷ cells) column i d l is all = by (is_alone column at) refl i l is all (λ j h e rest. alone_has P cells column j d h e rest)
  where
    by : (t : Bool) → is_alone column at ≡ t → (i : ℕ) → i < suc (length cells) → is_alone column (get_or (at ∷ cells) i d) ≡ true
        → All P (map (λ (a : Standing). a.cell.width) (cond t (at ∷ filter (is_alone column) cells) (filter (is_alone column) cells)))
        → ((j : ℕ) → j < length cells → is_alone column (get_or cells j d) ≡ true → All P (widths_alone cells column) → P (get_or cells j d).cell.width)
        → P (get_or (at ∷ cells) i d).cell.width
    by true e zero l is all next = All-head P at.cell.width (widths_alone cells column) all
    by true e (suc j) l is all next = next j (omega arith) is (All-tail P at.cell.width (widths_alone cells column) all)
    by false e zero l is all next = absurd (false≢true (sym e ∙ is))
    by false e (suc j) l is all next = next j (omega arith) is all

ready_base : (cells : List Standing) → All (λ (at : Standing). HasSpan at.cell) cells → All (IsReady (base_widths_of cells)) cells
ready_base cells spans = λ i d h.
    let at = get_or cells i d in
    let span : HasSpan at.cell = spans i d h in
    let within = end_within cells i d h in
    let long = length-list_to (reach cells) (base_width_of cells) in
    record {
      some = span.columns_low;
      inside = omega arith;
      alone = λ one.
          let column = get_or-list_to (reach cells) at.column (base_width_of cells) (pos 0) (let low = span.columns_low in omega arith) in
          subst (λ (z : ℤ). at.cell.width ≤ℤ z) (sym column)
          (alone_has (λ (w : ℤ). w ≤ℤ base_width_of cells at.column) cells at.column i d h (and_from _ _ (eq-eqb at.cell.span.columns 1 one) (eq-eqb at.column at.column refl))
          (largest_bound (widths_alone cells at.column)));
    }

pub cells_fit : (rows : List (List SpanCell)) → All (All HasSpan) rows
    → All (Fits (span_columns_of rows (first_columns_of rows))) (stand_rows 0 rows (first_columns_of rows))
cells_fit rows spans =
    let cells = stand_rows 0 rows (first_columns_of rows) in
    fits_all (base_widths_of cells) cells (ready_base cells (of_rows HasSpan 0 rows (first_columns_of rows) spans))

-- ---- as many columns as the cells reach
length-widened_all : (widths : List ℤ) (cells : List Standing) → length (widened_all widths cells) ≡ length widths
length-widened_all widths [] = refl
length-widened_all widths (at ∷ cells) = length-widened_all (widened_by widths at) cells ∙ length-widened_by widths at

pub length-span_columns_of : (rows : List (List SpanCell)) (firsts : List (List ℕ)) → length (span_columns_of rows firsts) ≡ reach (stand_rows 0 rows firsts)
length-span_columns_of rows firsts =
    let cells = stand_rows 0 rows firsts in
    length-widened_all (base_widths_of cells) cells ∙ length-list_to (reach cells) (base_width_of cells)
