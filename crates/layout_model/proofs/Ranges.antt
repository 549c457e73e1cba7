-- What fits lies in the stored range, and so do the columns of a table over answers that fit.
use Rattle.std.proofs.Common.{◌≡◌, refl, ap, ℕ, zero, suc, ◌≤◌, max, arith, Bool, true, ◌&&◌, List, [], ◌∷◌, length, map, fold, All, ℤ, slice_get}
use Rattle.std.proofs.lemmas.Bool.{and_parts}
use Rattle.std.proofs.lemmas.List.Elements.{All-append, All-cons, All-head, All-nil, All-tail}
use Rattle.std.specs.Int.{int_max}
use Rattle.std.specs.List.{AllPass, cons_option, list_all}
use Rattle.fixed_units.specs.Boxes.{IsStored, empty_box, farthest, is_box_stored, is_stored}
use Rattle.fixed_units.specs.Numbers.{IsWithin}
use Rattle.fixed_units.specs.Sums.{list_to}
use Rattle.fixed_units.proofs.Stored.{box_within}
use Rattle.fixed_units.proofs.Sums.{length-list_to}
use Rattle.fixed_units.proofs.Within.{max_in, natural_in, widened}
use Rattle.math_tables.specs.Columns.{column_at, column_count, columns_of, widest}
use Rattle.span_tables.specs.Bounds.{IsSpanStored}
use Rattle.span_tables.specs.declared.cells.CellSpan.{CellSpan}
use Rattle.layout_model.specs.Range.{answer_fits, span_fits}
use Rattle.layout_model.specs.Tables.{columns_over}
use Rattle.layout_model.specs.declared.outcome.Answer.{Answer}

-- ---- numbers and answers

pub number_within : (z : ℤ) → is_stored z ≡ true → IsWithin farthest z
unfolding is_stored
number_within z e = (box_within (record empty_box { width = z }) (ap (λ (b : Bool). b && true && true && true && true && true && true) e)).width

pub record IsAnswerStored (answer : Answer) : Type 0 where
  pub frame : IsStored answer.frame
  pub before : IsWithin farthest answer.before
  pub after : IsWithin farthest answer.after
  pub cells : All (IsWithin farthest) answer.cells
  pub spans : All IsSpanStored answer.spans

numbers_within : (numbers : List ℤ) → list_all is_stored numbers ≡ true → All (IsWithin farthest) numbers
numbers_within [] e = All-nil (IsWithin farthest)
numbers_within (z ∷ numbers) e =
    let parts = and_parts (is_stored z) (list_all is_stored numbers) e in
    All-cons (IsWithin farthest) z numbers (number_within z parts.0) (numbers_within numbers parts.1)

span_stored : (span : CellSpan) → span_fits span ≡ true → IsSpanStored span
span_stored span e =
    let parts = and_parts (is_stored span.ascent) (is_stored span.descent) e in
    record { ascent = number_within span.ascent parts.0; descent = number_within span.descent parts.1 }

spans_stored : (spans : List CellSpan) → list_all span_fits spans ≡ true → All IsSpanStored spans
spans_stored [] e = All-nil IsSpanStored
spans_stored (span ∷ spans) e =
    let parts = and_parts (span_fits span) (list_all span_fits spans) e in
    All-cons IsSpanStored span spans (span_stored span parts.0) (spans_stored spans parts.1)

pub answer_stored : (answer : Answer) → answer_fits answer ≡ true → IsAnswerStored answer
unfolding answer_fits
answer_stored a e =
    let whole = and_parts (is_box_stored a.frame && is_stored a.before && is_stored a.after && list_all is_stored a.cells) (list_all span_fits a.spans) e in
    let all = and_parts (is_box_stored a.frame && is_stored a.before && is_stored a.after) (list_all is_stored a.cells) whole.0 in
    let last = and_parts (is_box_stored a.frame && is_stored a.before) (is_stored a.after) all.0 in
    let two = and_parts (is_box_stored a.frame) (is_stored a.before) last.0 in
    record {
      frame = box_within a.frame two.0;
      before = number_within a.before two.1;
      after = number_within a.after last.1;
      cells = numbers_within a.cells all.1;
      spans = spans_stored a.spans whole.1;
    }

pub answers_stored : (answers : List Answer) → AllPass answer_fits answers → All IsAnswerStored answers
answers_stored answers fit k d l = answer_stored _ (fit k d l)

-- ---- columns

abbrev cells_of : Answer → List ℤ
cells_of answer = answer.cells

pub columns_few : (most : ℕ) (rows : List Answer) → All (λ (row : Answer). length row.cells ≤ most) rows → length (columns_over rows) ≤ most
unfolding columns_of
columns_few most rows all = omega (arith, length-list_to (column_count (map cells_of rows)) (λ place. widest (column_at (map cells_of rows) place)), count rows all)
  where
    count : (rows : List Answer) → All (λ (row : Answer). length row.cells ≤ most) rows → column_count (map cells_of rows) ≤ most
    count [] all = omega arith
    count (row ∷ rows) all =
        let here = All-head (λ (next : Answer). length next.cells ≤ most) row rows all in
        let rest = count rows (All-tail (λ (next : Answer). length next.cells ≤ most) row rows all) in
        let wider : column_count (map cells_of (row ∷ rows)) ≡ max (length row.cells) (column_count (map cells_of rows)) = refl in
        omega (arith, wider, here, rest)

folded_in : (width : ℤ) (widths : List ℤ) → IsWithin farthest width → All (IsWithin farthest) widths → IsWithin farthest (fold int_max width widths)
folded_in width [] p all = p
folded_in width (next ∷ widths) p all =
    folded_in (int_max width next) widths (widened farthest (max_in p (All-head (IsWithin farthest) next widths all)) (omega arith)) (All-tail (IsWithin farthest) next widths all)

widest_in : (widths : List ℤ) → All (IsWithin farthest) widths → IsWithin farthest (widest widths)
widest_in [] all = widened farthest (natural_in 0) (omega arith)
widest_in (width ∷ widths) all = folded_in width widths (All-head (IsWithin farthest) width widths all) (All-tail (IsWithin farthest) width widths all)

cell_in : (cells : List ℤ) (place : ℕ) (rest : List ℤ) → All (IsWithin farthest) cells → All (IsWithin farthest) rest
    → All (IsWithin farthest) (cons_option (slice_get cells place) rest)
cell_in [] place rest all h = h
cell_in (cell ∷ cells) zero rest all h = All-cons (IsWithin farthest) cell rest (All-head (IsWithin farthest) cell cells all) h
cell_in (cell ∷ cells) (suc place) rest all h = cell_in cells place rest (All-tail (IsWithin farthest) cell cells all) h

column_in : (rows : List Answer) (place : ℕ) → All IsAnswerStored rows → All (IsWithin farthest) (column_at (map cells_of rows) place)
column_in [] place all = All-nil (IsWithin farthest)
column_in (row ∷ rows) place all =
    cell_in row.cells place (column_at (map cells_of rows) place) (All-head IsAnswerStored row rows all).cells
    (column_in rows place (All-tail IsAnswerStored row rows all))

pub all_places : {A : Type 0} (P : A → Type 0) (n : ℕ) (f : ℕ → A) → ((i : ℕ) → P (f i)) → All P (list_to n f)
unfolding list_to
all_places P zero f h = All-nil P
all_places P (suc n) f h =
    All-append P (list_to n f) (f n ∷ []) (all_places P n f h) (All-cons P (f n) [] (h n) (All-nil P))

pub columns_in : (rows : List Answer) → AllPass answer_fits rows → All (IsWithin farthest) (columns_over rows)
unfolding columns_of
columns_in rows fit =
    all_places (IsWithin farthest) (column_count (map cells_of rows)) (λ place. widest (column_at (map cells_of rows) place))
    (λ place. widest_in (column_at (map cells_of rows) place) (column_in rows place (answers_stored rows fit)))
