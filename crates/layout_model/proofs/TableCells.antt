-- The cells of a table, over answers of its rows: how they span, and how far what the rows are asked with reaches.
use Rattle.std.proofs.Common.{◌≡◌, refl, ℕ, zero, suc, ◌+◌, ◌≤◌, arith, Bool, true, false, cond, List, [], ◌∷◌, length, take, get_or, All, ℤ, pos}
use Rattle.std.proofs.lemmas.List.Elements.{All-cons, All-head, All-map, All-nil, All-tail}
use Rattle.std.proofs.lemmas.List.Sums.{sum_by-cons}
use Rattle.fixed_units.specs.Boxes.{farthest}
use Rattle.fixed_units.specs.Numbers.{IsWithin}
use Rattle.fixed_units.proofs.Sums.{length-list_to}
use Rattle.fixed_units.proofs.Within.{natural_in, widened}
use Rattle.span_tables.specs.Bounds.{HasSpan, IsSpan, IsSpanStored, IsStored, cell_count as span_cell_count}
use Rattle.span_tables.specs.Laws.{slots_at}
use Rattle.span_tables.proofs.SlotBounds.{slots_within}
use Rattle.layout_model.specs.Fits.{AreAnswers, AreSpans, IsStretch, cell_count}
use Rattle.layout_model.specs.Tables.{cell_of_row, cells_at, cells_of_row, cells_of_rows, columns_at, columns_over, has_spans, single, stretch_at}
use Rattle.layout_model.specs.declared.context.Stretch.TheVariants.{Slots}
use Rattle.layout_model.specs.declared.outcome.Answer.{Answer}
use Rattle.layout_model.proofs.Ranges.{IsAnswerStored, all_places, answers_stored, columns_in}

-- the item at a place, and another one past the end
or_other : {A : Type 0} (P : A → Type 0) (xs : List A) (i : ℕ) (other : A) → P other → All P xs → P (get_or xs i other)
or_other P [] i other p all = p
or_other P (x ∷ xs) zero other p all = All-head P x xs all
or_other P (x ∷ xs) (suc i) other p all = or_other P xs i other p (All-tail P x xs all)

-- ---- how cells span

single_span : IsSpan single
single_span = record { columns_low = omega arith; columns_high = omega arith; rows_low = omega arith; rows_high = omega arith }

zero_in : IsWithin farthest (pos 0)
zero_in = widened farthest (natural_in 0) (omega arith)

row_spans : (row : Answer) → AreSpans row → All HasSpan (cells_of_row row)
row_spans row spans =
    all_places HasSpan (length row.cells) (cell_of_row row) (λ i. or_other IsSpan row.spans i single single_span spans.limits)

row_stored : (row : Answer) → IsAnswerStored row → All IsStored (cells_of_row row)
row_stored row stored =
    all_places IsStored (length row.cells) (cell_of_row row) (λ i. record {
      width = or_other (IsWithin farthest) row.cells i (pos 0) zero_in stored.cells;
      span = or_other IsSpanStored row.spans i single (record { ascent = zero_in; descent = zero_in }) stored.spans;
    })

pub rows_span : (rows : List Answer) → All AreSpans rows → All (All HasSpan) (cells_of_rows rows)
rows_span rows spans = All-map (All HasSpan) cells_of_row rows (λ k d l. row_spans (get_or rows k d) (spans k d l))

pub rows_stored : (rows : List Answer) → All IsAnswerStored rows → All (All IsStored) (cells_of_rows rows)
rows_stored rows stored = All-map (All IsStored) cells_of_row rows (λ k d l. row_stored (get_or rows k d) (stored k d l))

-- ---- how many they are

pub rows_count : (rows : List Answer) → span_cell_count (cells_of_rows rows) ≡ cell_count rows
rows_count [] = refl
rows_count (row ∷ rows) =
    let here : span_cell_count (cells_of_rows (row ∷ rows)) ≡ length (cells_of_row row) + span_cell_count (cells_of_rows rows) = refl in
    let all : cell_count (row ∷ rows) ≡ length row.cells + cell_count rows = sum_by-cons (λ (answer : Answer). length answer.cells) row rows in
    omega (
      arith,
      here,
      all,
      length-list_to (length row.cells) (cell_of_row row),
      rows_count rows,
    )

pub each_few : (most : ℕ) (answers : List Answer) → cell_count answers ≤ most → All (λ (answer : Answer). length answer.cells ≤ most) answers
each_few most [] few = All-nil (λ (answer : Answer). length answer.cells ≤ most)
each_few most (answer ∷ answers) few =
    let all : cell_count (answer ∷ answers) ≡ length answer.cells + cell_count answers = sum_by-cons (λ (a : Answer). length a.cells) answer answers in
    All-cons (λ (a : Answer). length a.cells ≤ most) answer answers (omega (arith, all, few)) (each_few most answers (omega (arith, all, few)))

-- ---- what rows are asked with

taken_in : (n : ℕ) (widths : List ℤ) → All (IsWithin farthest) widths → All (IsWithin farthest) (take n widths)
taken_in zero widths all = All-nil (IsWithin farthest)
taken_in (suc n) [] all = All-nil (IsWithin farthest)
taken_in (suc n) (width ∷ widths) all =
    All-cons (IsWithin farthest) width (take n widths) (All-head (IsWithin farthest) width widths all) (taken_in n widths (All-tail (IsWithin farthest) width widths all))

pub row_stretch_stored : (rows : List Answer) → AreAnswers rows → (index : ℕ) → IsStretch (stretch_at rows index)
unfolding stretch_at
row_stretch_stored rows fit index = by (has_spans rows)
  where
    by : (b : Bool) → IsStretch (cond b (Slots (slots_at (cells_of_rows rows) index)) (columns_at rows index))
    by true =
        slots_within (cells_of_rows rows) index (rows_span rows fit.spans) (rows_stored rows (answers_stored rows fit.fit))
        (omega (arith, rows_count rows, fit.few))
    by false = taken_in (length (cells_at rows index)) (columns_over rows) (columns_in rows fit.fit)
