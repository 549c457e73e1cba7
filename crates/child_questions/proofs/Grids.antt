-- Which kind of grid a table has, and what its rows are asked with.
use Rattle.std.proofs.Common.{◌≡◌, ◌∙◌, refl, sym, ap, subst, ℕ, ◌-◌, arith, Bool, true, false, cond, List, length, ℤ}
use Rattle.math_tables.specs.Placing.{table_width_of}
use Rattle.span_tables.specs.Laws.{cells_at, firsts_at, slots_at}
use Rattle.span_tables.specs.Slots.{AreInside, slots_by, starts_of}
use Rattle.span_tables.specs.Standing.{first_columns_of}
use Rattle.span_tables.specs.declared.cells.SpanCell.{SpanCell}
use Rattle.span_tables.proofs.SlotBounds.{inside_at}
use Rattle.span_tables.proofs.Starts.{length-starts_of, slots_are}
use Rattle.layout_model.specs.Tables.{cells_of_rows, columns_at, columns_over, has_spans, spanned_columns, stretch_at}
use Rattle.layout_model.specs.declared.context.Stretch.TheVariants.{Slots}
use Rattle.layout_model.specs.declared.outcome.Answer.{Answer}
use Rattle.child_questions.specs.Grids.{grid_of, plain_grid_of, spanning_grid_of}
use Rattle.child_questions.specs.declared.tables.Grid.TheVariants.{Plain, Spanning}

-- ---- which kind

pub grid-spanning : (rows : List Answer) → has_spans rows ≡ true → grid_of rows ≡ spanning_grid_of rows
unfolding grid_of
grid-spanning rows e = ap (λ (b : Bool). cond b (spanning_grid_of rows) (plain_grid_of rows)) e

pub grid-plain : (rows : List Answer) → has_spans rows ≡ false → grid_of rows ≡ plain_grid_of rows
unfolding grid_of
grid-plain rows e = ap (λ (b : Bool). cond b (spanning_grid_of rows) (plain_grid_of rows)) e

-- ---- what a grid of a kind tells

pub record TellsSpanning (rows : List Answer) (cells : List (List SpanCell)) (firsts : List (List ℕ)) (starts : List ℤ) : Type 0 where
  pub some : has_spans rows ≡ true
  pub cells_are : cells ≡ cells_of_rows rows
  pub firsts_are : firsts ≡ first_columns_of (cells_of_rows rows)
  pub starts_are : starts ≡ starts_of (spanned_columns rows)

pub tells_spanning : (rows : List Answer) (cells : List (List SpanCell)) (firsts : List (List ℕ)) (starts : List ℤ)
    → grid_of rows ≡ Spanning cells firsts starts → TellsSpanning rows cells firsts starts
tells_spanning rows cells firsts starts e = by (has_spans rows) refl
  where
    by : (b : Bool) → has_spans rows ≡ b → TellsSpanning rows cells firsts starts
    by true t =
        let same : Spanning (cells_of_rows rows) (first_columns_of (cells_of_rows rows)) (starts_of (spanned_columns rows)) ≡ Spanning cells firsts starts =
        sym (grid-spanning rows t) ∙ e in
        record { some = t; cells_are = cc; firsts_are = cc; starts_are = cc }
    by false t =
        let same : Plain (table_width_of (columns_over rows)) (columns_over rows) ≡ Spanning cells firsts starts = sym (grid-plain rows t) ∙ e in
        absurd (cc)

pub record TellsPlain (rows : List Answer) (total : ℤ) (widths : List ℤ) : Type 0 where
  pub none : has_spans rows ≡ false
  pub total_is : total ≡ table_width_of (columns_over rows)
  pub widths_are : widths ≡ columns_over rows

pub tells_plain : (rows : List Answer) (total : ℤ) (widths : List ℤ) → grid_of rows ≡ Plain total widths → TellsPlain rows total widths
tells_plain rows total widths e = by (has_spans rows) refl
  where
    by : (b : Bool) → has_spans rows ≡ b → TellsPlain rows total widths
    by true t =
        let same : Spanning (cells_of_rows rows) (first_columns_of (cells_of_rows rows)) (starts_of (spanned_columns rows)) ≡ Plain total widths =
        sym (grid-spanning rows t) ∙ e in
        absurd (cc)
    by false t =
        let same : Plain (table_width_of (columns_over rows)) (columns_over rows) ≡ Plain total widths = sym (grid-plain rows t) ∙ e in
        record { none = t; total_is = cc; widths_are = cc }

-- ---- what a row is asked with

pub stretch-plain : (rows : List Answer) (index : ℕ) → has_spans rows ≡ false → stretch_at rows index ≡ columns_at rows index
unfolding stretch_at
stretch-plain rows index e = ap (λ (b : Bool). cond b (Slots (slots_at (cells_of_rows rows) index)) (columns_at rows index)) e

stretch-slots : (rows : List Answer) (index : ℕ) → has_spans rows ≡ true → stretch_at rows index ≡ Slots (slots_at (cells_of_rows rows) index)
unfolding stretch_at
stretch-slots rows index e = ap (λ (b : Bool). cond b (Slots (slots_at (cells_of_rows rows) index)) (columns_at rows index)) e

pub stretch-spanning : (rows : List Answer) (index : ℕ) (cells : List (List SpanCell)) (firsts : List (List ℕ)) (starts : List ℤ)
    → TellsSpanning rows cells firsts starts → Slots (slots_by starts (cells_at cells index) (firsts_at firsts index)) ≡ stretch_at rows index
stretch-spanning rows index cells firsts starts h =
    let all = cells_of_rows rows in
    let same : slots_by starts (cells_at cells index) (firsts_at firsts index)
    ≡ slots_by (starts_of (spanned_columns rows)) (cells_at all index) (firsts_at (first_columns_of all) index) =
    λ i. slots_by (h.starts_are i) (cells_at (h.cells_are i) index) (firsts_at (h.firsts_are i) index) in
    ap (λ (numbers : List ℤ). Slots numbers)
    (same ∙ slots_are (spanned_columns rows) (cells_at all index) (firsts_at (first_columns_of all) index) (inside_at all index))
    ∙ sym (stretch-slots rows index h.some)

pub spanning_inside : (rows : List Answer) (index : ℕ) (cells : List (List SpanCell)) (firsts : List (List ℕ)) (starts : List ℤ)
    → TellsSpanning rows cells firsts starts → AreInside (length starts - 1) (cells_at cells index) (firsts_at firsts index)
spanning_inside rows index cells firsts starts h =
    let all = cells_of_rows rows in
    let long = ap (λ (list : List ℤ). length list) h.starts_are ∙ length-starts_of (spanned_columns rows) in
    let count : length (spanned_columns rows) ≡ length starts - 1 = omega (arith, long) in
    let inside = subst (λ (n : ℕ). AreInside n (cells_at all index) (firsts_at (first_columns_of all) index)) count (inside_at all index) in
    subst (λ (list : List (List ℕ)). AreInside (length starts - 1) (cells_at cells index) (firsts_at list index)) (sym h.firsts_are)
    (subst (λ (list : List (List SpanCell)). AreInside (length starts - 1) (cells_at list index) (firsts_at (first_columns_of all) index)) (sym h.cells_are) inside)
