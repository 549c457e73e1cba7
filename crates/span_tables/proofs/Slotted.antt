-- No cell is wider than its slot.
use Rattle.std.proofs.Common.{◌≡◌, ◌∙◌, refl, sym, ap, subst, ℕ, zero, suc, ◌+◌, ◌*◌, ◌<◌, arith, List, [], ◌∷◌, ◌++◌, length, get_or, ℤ, pos, ◌≤ℤ◌}
use Rattle.std.specs.List.{All}
use Rattle.std.proofs.lemmas.List.{get_or_append_left, get_or-append-add, length-append}
use Rattle.std.proofs.lemmas.List.Elements.{All-head, All-tail}
use Rattle.fixed_units.proofs.Sums.{sum_to_same}
use Rattle.math_tables.specs.Placing.{start_of, table_width_of}
use Rattle.span_tables.specs.declared.cells.SpanCell.{SpanCell}
use Rattle.span_tables.specs.declared.standing.Standing.{Standing}
use Rattle.span_tables.specs.Bounds.{HasSpan}
use Rattle.span_tables.specs.Laws.{Fits, no_cell, cells_at, firsts_at, cell_at, slots_at, slots_total, slot_width}
use Rattle.span_tables.specs.Slots.{slots_along, slots_of}
use Rattle.span_tables.specs.Standing.{IsOneEach, stand, stand_rows, first_columns_of}
use Rattle.span_tables.specs.Widths.{width_over, span_columns_of}
use Rattle.span_tables.proofs.Fitted.{cells_fit}
use Rattle.span_tables.proofs.Shapes.{one_each}

-- what holds of two lists one behind the other holds of each
front_has : (P : Standing → Type 0) (ats others : List Standing) → All P (ats ++ others) → All P ats
front_has P ats others all = λ k d l.
    subst P (get_or_append_left ats others d k l) (all k d (let long = length-append ats others in omega arith))

behind_has : (P : Standing → Type 0) (ats others : List Standing) → All P (ats ++ others) → All P others
behind_has P ats others all = λ k d l.
    subst P (get_or-append-add ats others k d) (all (length ats + k) d (let long = length-append ats others in omega arith))

-- ---- a cell of a row, and of a table
along_fits : (widths : List ℤ) (row : ℕ) (cells : List SpanCell) (firsts : List ℕ) (place : ℕ) → length firsts ≡ length cells → place < length cells
    → All (Fits widths) (stand row cells firsts)
    → (get_or cells place no_cell).width ≤ℤ width_over widths (get_or firsts place 0) (get_or cells place no_cell).span.columns
along_fits widths row [] firsts place same l all = absurd (omega arith)
along_fits widths row (cell ∷ cells) [] place same l all = absurd (omega arith)
along_fits widths row (cell ∷ cells) (first ∷ firsts) zero same l all = All-head (Fits widths) _ (stand row cells firsts) all
along_fits widths row (cell ∷ cells) (first ∷ firsts) (suc place) same l all =
    along_fits widths row cells firsts place (omega arith) (omega arith) (All-tail (Fits widths) _ (stand row cells firsts) all)

below_fits : (widths : List ℤ) (start : ℕ) (rows : List (List SpanCell)) (firsts : List (List ℕ)) (row place : ℕ) → IsOneEach rows firsts
    → row < length rows → place < length (cells_at rows row) → All (Fits widths) (stand_rows start rows firsts)
    → (cell_at rows row place).width ≤ℤ width_over widths (get_or (firsts_at firsts row) place 0) (cell_at rows row place).span.columns
below_fits widths start [] firsts row place each l h all = absurd (omega arith)
below_fits widths start (cells ∷ rows) [] row place each l h all = let none = each.row_count in absurd (omega arith)
below_fits widths start (cells ∷ rows) (along ∷ firsts) zero place each l h all =
    along_fits widths start cells along place (each.cell_count 0) h (front_has (Fits widths) (stand start cells along) (stand_rows (start + 1) rows firsts) all)
below_fits widths start (cells ∷ rows) (along ∷ firsts) (suc row) place each l h all =
    let count = each.row_count in
    below_fits widths (start + 1) rows firsts row place record { row_count = omega arith; cell_count = λ k. each.cell_count (suc k) } (omega arith) h
    (behind_has (Fits widths) (stand start cells along) (stand_rows (start + 1) rows firsts) all)

-- ---- its slot
wide_along : (widths : List ℤ) (cells : List SpanCell) (firsts : List ℕ) (place : ℕ) → length firsts ≡ length cells → place < length cells
    → get_or (slots_along widths cells firsts) (2 * place + 1) (pos 0) ≡ width_over widths (get_or firsts place 0) (get_or cells place no_cell).span.columns
wide_along widths [] firsts place same l = absurd (omega arith)
wide_along widths (cell ∷ cells) [] place same l = absurd (omega arith)
wide_along widths (cell ∷ cells) (first ∷ firsts) zero same l =
    let one : 2 * zero + 1 ≡ 1 = omega arith in
    ap (λ (n : ℕ). get_or (slots_along widths (cell ∷ cells) (first ∷ firsts)) n (pos 0)) one
wide_along widths (cell ∷ cells) (first ∷ firsts) (suc place) same l =
    let two : 2 * suc place + 1 ≡ suc (suc (2 * place + 1)) = omega arith in
    ap (λ (n : ℕ). get_or (slots_along widths (cell ∷ cells) (first ∷ firsts)) n (pos 0)) two
    ∙ wide_along widths cells firsts place (omega arith) (omega arith)

slot_is : (widths : List ℤ) (cells : List SpanCell) (firsts : List ℕ) (place : ℕ) → length firsts ≡ length cells → place < length cells
    → slot_width (slots_of cells firsts widths) place ≡ width_over widths (get_or firsts place 0) (get_or cells place no_cell).span.columns
slot_is widths cells firsts place same l =
    let next : 2 * place + 2 ≡ suc (2 * place + 1) = omega arith in
    ap (λ (n : ℕ). get_or (slots_of cells firsts widths) n (pos 0)) next ∙ wide_along widths cells firsts place same l

pub cells_fit_slots : (rows : List (List SpanCell)) (row place : ℕ) → All (All HasSpan) rows → row < length rows → place < length (cells_at rows row)
    → (cell_at rows row place).width ≤ℤ slot_width (slots_at rows row) place
cells_fit_slots rows row place spans l h =
    let firsts = first_columns_of rows in
    let widths = span_columns_of rows firsts in
    subst (λ (w : ℤ). (cell_at rows row place).width ≤ℤ w) (sym (slot_is widths (cells_at rows row) (firsts_at firsts row) place ((one_each rows).cell_count row) h))
    (below_fits widths 0 rows firsts row place (one_each rows) l h (cells_fit rows spans))

-- ---- all columns
pub slots_wide : (cells : List SpanCell) (firsts : List ℕ) (widths : List ℤ) → slots_total (slots_of cells firsts widths) ≡ table_width_of widths
unfolding width_over start_of
slots_wide cells firsts widths =
    sum_to_same (length widths) (λ (place : ℕ). get_or widths (0 + place) (pos 0)) (λ (place : ℕ). get_or widths place (pos 0))
    (λ i l. let same : 0 + i ≡ i = omega arith in ap (λ (n : ℕ). get_or widths n (pos 0)) same)
