-- A table without spanning cells: columns 0, 1, 2 .. as wide as their widest cells, and rows as high as they were.
use Rattle.std.proofs.Common.{◌≡◌, ◌∙◌, refl, ap, ℕ, zero, suc, ◌+◌, ◌<◌, ◌≤◌, max, arith, Bool, true, false, cond, ◌&&◌, List, [], ◌∷◌, ◌++◌, length, map, unwrap_or, fold, Option, Some, None, ℤ, pos, ◌-◌, ◌-ℤ◌}
use Rattle.std.specs.Prelude.{int_lt, unsigned_abs, slice_get}
use Rattle.std.specs.List.{All, filter, cons_option}
use Rattle.std.proofs.lemmas.Bool.{le-ltb, eq-eqb, ne_eqb, and_from, and_left, and_right, or_from}
use Rattle.std.proofs.lemmas.List.{length-map}
use Rattle.std.proofs.lemmas.List.Elements.{All-head, All-tail}
use Rattle.fixed_units.specs.Sums.{list_to}
use Rattle.math_tables.specs.Columns.{column_at, column_count, widest, columns_of}
use Rattle.span_tables.specs.declared.cells.SpanCell.{SpanCell}
use Rattle.span_tables.specs.declared.cells.RowHeight.{RowHeight}
use Rattle.span_tables.specs.declared.standing.Standing.{Standing}
use Rattle.span_tables.specs.Heights.{deepened, deepened_by, deepened_below, end_row, room_below, span_heights_of}
use Rattle.span_tables.specs.Laws.{IsSingle, counted, widths_of}
use Rattle.span_tables.specs.Standing.{is_covered, reach, stand, stand_rows, first_free_of, firsts_along, firsts_below, first_columns_of}
use Rattle.span_tables.specs.Widths.{is_alone, widths_alone, largest, base_width_of, base_widths_of, width_over, shared, widened_by, widened_all, span_columns_of}
use Rattle.span_tables.proofs.Growing.{of_rows}
use Rattle.span_tables.proofs.Places.{is_covered-append, reach-append}

abbrev all_counted : List (List SpanCell) → List (List ℕ)
all_counted rows = map (λ (cells : List SpanCell). counted 0 (length cells)) rows

-- ---- first columns
free_at_once : (taken : ℕ → Bool) (from count : ℕ) → ((k : ℕ) → taken k ≡ false) → first_free_of taken from count ≡ from
free_at_once taken from zero none = refl
free_at_once taken from (suc count) none = ap (λ (t : Bool). cond t (first_free_of taken (from + 1) count) from) (none from)

counted_along : (taken : ℕ → Bool) (count from : ℕ) (cells : List SpanCell) → ((k : ℕ) → taken k ≡ false) → All IsSingle cells
    → firsts_along taken count from cells ≡ counted from (length cells)
counted_along taken count from [] none single = refl
counted_along taken count from (cell ∷ cells) none single =
    ap (λ (first : ℕ). first ∷ firsts_along taken count (first + cell.span.columns) cells) (free_at_once taken from count none)
    ∙ ap (λ (n : ℕ). from ∷ firsts_along taken count (from + n) cells) (All-head IsSingle cell cells single).columns
    ∙ ap (λ (ns : List ℕ). from ∷ ns) (counted_along taken count (from + 1) cells none (All-tail IsSingle cell cells single))

none_below : (row : ℕ) (cells : List SpanCell) (firsts : List ℕ) (below column : ℕ) → row < below → All IsSingle cells
    → is_covered (stand row cells firsts) below column ≡ false
none_below row [] firsts below column l single = refl
none_below row (cell ∷ cells) [] below column l single = refl
none_below row (cell ∷ cells) (first ∷ firsts) below column l single =
    let one = (All-head IsSingle cell cells single).rows in
    or_from _ _ (and_left _ _ (and_right _ _ (le-ltb below (row + cell.span.rows) (omega arith))))
    (none_below row cells firsts below column l (All-tail IsSingle cell cells single))

counted_below : (row : ℕ) (earlier : List Standing) (rows : List (List SpanCell)) → ((below column : ℕ) → row ≤ below → is_covered earlier below column ≡ false)
    → All (All IsSingle) rows → firsts_below row earlier rows ≡ all_counted rows
counted_below row earlier [] none single = refl
counted_below row earlier (cells ∷ rows) none single =
    let firsts = firsts_along (is_covered earlier row) (reach earlier) 0 cells in
    let here = All-head (All IsSingle) cells rows single in
    ap (λ (along : List ℕ). along ∷ firsts_below (row + 1) (earlier ++ stand row cells firsts) rows)
    (counted_along (is_covered earlier row) (reach earlier) 0 cells (λ k. none row k (omega arith)) here)
    ∙ ap (λ (more : List (List ℕ)). counted 0 (length cells) ∷ more)
    (counted_below (row + 1) (earlier ++ stand row cells firsts) rows
    (λ below column l. is_covered-append earlier (stand row cells firsts) below column
    ∙ or_from _ _ (none below column (omega arith)) (none_below row cells firsts below column (omega arith) here))
    (All-tail (All IsSingle) cells rows single))

pub single_firsts : (rows : List (List SpanCell)) → All (All IsSingle) rows → first_columns_of rows ≡ all_counted rows
single_firsts rows single = counted_below 0 [] rows (λ below column l. refl) single

-- ---- how many columns
reach_counted : (row from : ℕ) (cells : List SpanCell) → All IsSingle cells → max from (reach (stand row cells (counted from (length cells)))) ≡ from + length cells
reach_counted row from [] single = omega arith
reach_counted row from (cell ∷ cells) single =
    let one = (All-head IsSingle cell cells single).columns in
    let rest = reach_counted row (from + 1) cells (All-tail IsSingle cell cells single) in
    omega arith

reach_below : (row : ℕ) (rows : List (List SpanCell)) → All (All IsSingle) rows → reach (stand_rows row rows (all_counted rows)) ≡ column_count (widths_of rows)
reach_below row [] single = refl
reach_below row (cells ∷ rows) single =
    let here = reach_counted row 0 cells (All-head (All IsSingle) cells rows single) in
    let rest = reach_below (row + 1) rows (All-tail (All IsSingle) cells rows single) in
    let all = reach-append (stand row cells (counted 0 (length cells))) (stand_rows (row + 1) rows (all_counted rows)) in
    let long = length-map cells (λ (cell : SpanCell). cell.width) in
    omega arith

-- ---- the cells of a column
first_more : (t : Bool) (at : Standing) (some all : List Standing) (more : List ℤ)
    → map (λ (a : Standing). a.cell.width) all ≡ map (λ (a : Standing). a.cell.width) some ++ more
    → map (λ (a : Standing). a.cell.width) (cond t (at ∷ all) all) ≡ map (λ (a : Standing). a.cell.width) (cond t (at ∷ some) some) ++ more
first_more true at some all more e = ap (λ (ws : List ℤ). at.cell.width ∷ ws) e
first_more false at some all more e = e

alone-append : (ats others : List Standing) (column : ℕ) → widths_alone (ats ++ others) column ≡ widths_alone ats column ++ widths_alone others column
alone-append [] others column = refl
alone-append (at ∷ ats) others column =
    first_more (is_alone column at) at (filter (is_alone column) ats) (filter (is_alone column) (ats ++ others)) (widths_alone others column) (alone-append ats others column)

alone_if : (t : Bool) (at : Standing) (rest : List Standing) (column : ℕ) → is_alone column at ≡ t
    → widths_alone (at ∷ rest) column ≡ cond t (at.cell.width ∷ widths_alone rest column) (widths_alone rest column)
alone_if true at rest column e = ap (λ (t : Bool). map (λ (a : Standing). a.cell.width) (cond t (at ∷ filter (is_alone column) rest) (filter (is_alone column) rest))) e
alone_if false at rest column e = ap (λ (t : Bool). map (λ (a : Standing). a.cell.width) (cond t (at ∷ filter (is_alone column) rest) (filter (is_alone column) rest))) e

none_before : (row from : ℕ) (cells : List SpanCell) (column : ℕ) → column < from → widths_alone (stand row cells (counted from (length cells))) column ≡ []
none_before row from [] column l = refl
none_before row from (cell ∷ cells) column l =
    alone_if false record { row = row; column = from; cell = cell } (stand row cells (counted (from + 1) (length cells))) column
    (and_right _ _ (ne_eqb from column (λ e. omega arith)))
    ∙ none_before row (from + 1) cells column (omega arith)

alone_along : (row from : ℕ) (cells : List SpanCell) (k column : ℕ) → column ≡ from + k → All IsSingle cells
    → widths_alone (stand row cells (counted from (length cells))) column ≡ cons_option (slice_get (map (λ (cell : SpanCell). cell.width) cells) k) []
alone_along row from [] k column e single = refl
alone_along row from (cell ∷ cells) zero column e single =
    let one = (All-head IsSingle cell cells single).columns in
    alone_if true record { row = row; column = from; cell = cell } (stand row cells (counted (from + 1) (length cells))) column
    (and_from _ _ (eq-eqb cell.span.columns 1 one) (eq-eqb from column (omega arith)))
    ∙ ap (λ (ws : List ℤ). cell.width ∷ ws) (none_before row (from + 1) cells column (omega arith))
alone_along row from (cell ∷ cells) (suc k) column e single =
    alone_if false record { row = row; column = from; cell = cell } (stand row cells (counted (from + 1) (length cells))) column
    (and_right _ _ (ne_eqb from column (λ same. omega arith)))
    ∙ alone_along row (from + 1) cells k column (omega arith) (All-tail IsSingle cell cells single)

one_or_none : (o : Option ℤ) (ws : List ℤ) → cons_option o [] ++ ws ≡ cons_option o ws
one_or_none None ws = refl
one_or_none (Some w) ws = refl

alone_below : (row : ℕ) (rows : List (List SpanCell)) (column : ℕ) → All (All IsSingle) rows
    → widths_alone (stand_rows row rows (all_counted rows)) column ≡ column_at (widths_of rows) column
alone_below row [] column single = refl
alone_below row (cells ∷ rows) column single =
    alone-append (stand row cells (counted 0 (length cells))) (stand_rows (row + 1) rows (all_counted rows)) column
    ∙ ap (λ (ws : List ℤ). ws ++ widths_alone (stand_rows (row + 1) rows (all_counted rows)) column)
    (alone_along row 0 cells column column (omega arith) (All-head (All IsSingle) cells rows single))
    ∙ ap (λ (ws : List ℤ). cons_option (slice_get (map (λ (cell : SpanCell). cell.width) cells) column) [] ++ ws)
    (alone_below (row + 1) rows column (All-tail (All IsSingle) cells rows single))
    ∙ one_or_none (slice_get (map (λ (cell : SpanCell). cell.width) cells) column) (column_at (widths_of rows) column)

-- ---- the widths of columns
largest-widest : (ws : List ℤ) → unwrap_or (largest ws) (pos 0) ≡ widest ws
largest-widest [] = refl
largest-widest (w ∷ ws) = refl

list_to-same : (n : ℕ) (f g : ℕ → ℤ) → ((i : ℕ) → f i ≡ g i) → list_to n f ≡ list_to n g
unfolding list_to
list_to-same zero f g same = refl
list_to-same (suc n) f g same =
    ap (λ (ws : List ℤ). ws ++ f n ∷ []) (list_to-same n f g same) ∙ ap (λ (w : ℤ). list_to n g ++ w ∷ []) (same n)

nothing_lacks : (widths : List ℤ) (cells : List Standing) → All (λ (at : Standing). IsSingle at.cell) cells → widened_all widths cells ≡ widths
nothing_lacks widths [] single = refl
nothing_lacks widths (at ∷ cells) single =
    let one = (All-head (λ (a : Standing). IsSingle a.cell) at cells single).columns in
    let lack = at.cell.width -ℤ width_over widths at.column at.cell.span.columns in
    let same : widened_by widths at ≡ widths =
    ap (λ (t : Bool). cond (t && int_lt (pos 0) lack) (shared widths at.column at.cell.span.columns (unsigned_abs lack)) widths) (le-ltb 1 at.cell.span.columns (omega arith)) in
    ap (λ (ws : List ℤ). widened_all ws cells) same ∙ nothing_lacks widths cells (All-tail (λ (a : Standing). IsSingle a.cell) at cells single)

pub single_columns : (rows : List (List SpanCell)) → All (All IsSingle) rows → span_columns_of rows (first_columns_of rows) ≡ columns_of (widths_of rows)
unfolding columns_of
single_columns rows single =
    let cells = stand_rows 0 rows (all_counted rows) in
    ap (span_columns_of rows) (single_firsts rows single)
    ∙ nothing_lacks (base_widths_of cells) cells (of_rows IsSingle 0 rows (all_counted rows) single)
    ∙ ap (λ (n : ℕ). list_to n (base_width_of cells)) (reach_below 0 rows single)
    ∙ list_to-same (column_count (widths_of rows)) (base_width_of cells) (λ k. widest (column_at (widths_of rows) k))
    (λ k. ap (λ (ws : List ℤ). unwrap_or (largest ws) (pos 0)) (alone_below 0 rows k single) ∙ largest-widest (column_at (widths_of rows) k))

-- ---- the heights of rows
along_same : (row : ℕ) (heights : List RowHeight) (cells : List SpanCell) → All IsSingle cells → fold (deepened_by row) heights cells ≡ heights
along_same row heights [] single = refl
along_same row heights (cell ∷ cells) single =
    let one = (All-head IsSingle cell cells single).rows in
    let lack = cell.span.descent -ℤ room_below heights row cell in
    let same : deepened_by row heights cell ≡ heights =
    ap (λ (t : Bool). cond (t && int_lt (pos 0) lack) (deepened heights (end_row heights row cell - 1) lack) heights) (le-ltb 1 cell.span.rows (omega arith)) in
    ap (λ (hs : List RowHeight). fold (deepened_by row) hs cells) same ∙ along_same row heights cells (All-tail IsSingle cell cells single)

below_same : (row : ℕ) (rows : List (List SpanCell)) (heights : List RowHeight) → All (All IsSingle) rows → deepened_below row rows heights ≡ heights
below_same row [] heights single = refl
below_same row (cells ∷ rows) heights single =
    ap (deepened_below (row + 1) rows) (along_same row heights cells (All-head (All IsSingle) cells rows single))
    ∙ below_same (row + 1) rows heights (All-tail (All IsSingle) cells rows single)

pub single_heights : (rows : List (List SpanCell)) (heights : List RowHeight) → All (All IsSingle) rows → span_heights_of rows heights ≡ heights
single_heights rows heights single = below_same 0 rows heights single
