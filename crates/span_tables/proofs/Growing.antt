-- How wide a column may become.
use Rattle.std.proofs.Common.{◌≡◌, ◌∙◌, refl, sym, ap, subst, ℕ, ◌+◌, ◌-◌, ◌<◌, ◌≤◌, arith, Bool, true, false, cond, ◌&&◌, nat_lt, nat_le, List, [], ◌∷◌, length, take, get_or, map, unwrap_or, fold, ℤ, pos, negsuc, ◌+ℤ◌, ◌-ℤ◌}
use Rattle.std.specs.Prelude.{int_lt, unsigned_abs}
use Rattle.std.specs.Int.{int_max}
use Rattle.std.specs.List.{All, filter}
use Rattle.std.proofs.lemmas.Bool.{ltb-true, leb-true, and_parts}
use Rattle.std.proofs.lemmas.List.Elements.{All-head, All-tail, All-cons, All-append, All-get_or}
use Rattle.std.proofs.lemmas.List.{take_more}
use Rattle.std.proofs.lemmas.List.Sums.{fold-append}
use Rattle.fixed_units.specs.Numbers.{IsWithin}
use Rattle.fixed_units.proofs.Signed.{signed}
use Rattle.fixed_units.proofs.Sums.{length-list_to}
use Rattle.span_tables.proofs.Listed.{get_or-list_to}
use Rattle.fixed_units.proofs.Within.{natural_in, widened, max_in}
use Rattle.span_tables.specs.declared.cells.SpanCell.{SpanCell}
use Rattle.span_tables.specs.declared.standing.Standing.{Standing}
use Rattle.span_tables.specs.Bounds.{HasSpan, IsStored}
use Rattle.fixed_units.specs.Boxes.{farthest}
use Rattle.span_tables.specs.Standing.{end_of, reach, stand, stand_rows}
use Rattle.span_tables.specs.Widths.{IsColumn, width_at, width_over, share_of, shared, widened_by, widened_all, is_alone, widths_alone, largest, base_width_of, base_widths_of}
use Rattle.span_tables.specs.Largest.{IsStandingStored}
use Rattle.span_tables.proofs.Shares.{share_within, over_but_one}

-- ---- cells that span one column
fold_in : {m : ℕ} (first : ℤ) (widths : List ℤ) → IsWithin m first → All (IsWithin m) widths → IsWithin m (fold int_max first widths)
fold_in {m} first [] p all = p
fold_in {m} first (width ∷ widths) p all =
    fold_in (int_max first width) widths (widened m (max_in p (All-head (IsWithin m) width widths all)) (omega arith)) (All-tail (IsWithin m) width widths all)

pub largest_in : {m : ℕ} (widths : List ℤ) → All (IsWithin m) widths → IsWithin m (unwrap_or (largest widths) (pos 0))
largest_in {m} [] all = widened m (natural_in 0) (omega arith)
largest_in {m} (width ∷ widths) all = fold_in width widths (All-head (IsWithin m) width widths all) (All-tail (IsWithin m) width widths all)

alone_in : (cells : List Standing) (column : ℕ) → All IsStandingStored cells → All (IsWithin farthest) (widths_alone cells column)
alone_in [] column all = λ k d h. absurd (omega arith)
alone_in (at ∷ cells) column all =
    one (is_alone column at) (alone_in cells column (All-tail IsStandingStored at cells all))
  where
    one : (t : Bool) → All (IsWithin farthest) (widths_alone cells column)
        → All (IsWithin farthest) (map (λ (a : Standing). a.cell.width) (cond t (at ∷ filter (is_alone column) cells) (filter (is_alone column) cells)))
    one true rest = All-cons (IsWithin farthest) at.cell.width (widths_alone cells column) (All-head IsStandingStored at cells all).stored.width rest
    one false rest = rest

pub base_in : (cells : List Standing) → All IsStandingStored cells → All IsColumn (base_widths_of cells)
base_in cells all = λ k d h.
    let within = largest_in (widths_alone cells k) (alone_in cells k all) in
    let column : IsColumn (base_width_of cells k) = record { low = omega (arith, signed); high = omega (arith, signed) } in
    subst IsColumn (sym (get_or-list_to (reach cells) k (base_width_of cells) d (omega (arith, length-list_to (reach cells) (base_width_of cells))))) column

-- ---- cells that span several
pub positive : (z : ℤ) → int_lt (pos 0) z ≡ true → (pos (unsigned_abs z) ≡ z) × (1 ≤ unsigned_abs z)
positive (pos n) e = (refl, omega (arith, signed))
positive (negsuc n) e = absurd (omega (arith, signed))

-- a column that gets a share of a lack is at most as wide as the cell and 64 narrowest columns
share_in : (widths : List ℤ) (at : Standing) (place : ℕ) → All IsColumn widths → end_of at ≤ length widths → HasSpan at.cell → IsStored at.cell
    → place < at.cell.span.columns → (lack : ℕ) → 1 ≤ lack → pos lack ≡ at.cell.width -ℤ width_over widths at.column at.cell.span.columns
    → IsColumn (get_or widths (at.column + place) (pos 0) +ℤ pos (share_of lack at.cell.span.columns place))
share_in widths at place all inside span stored l lack some e =
    let share = share_within lack at.cell.span.columns place span.columns_low some in
    let rest = over_but_one widths at.column at.cell.span.columns place l all inside in
    let here = All-get_or IsColumn widths (at.column + place) (pos 0) (omega arith) all in
    let width = stored.width in
    let count = span.columns_high in
    record { low = omega (arith, signed); high = omega (arith, signed) }

one_grown : (widths : List ℤ) (at : Standing) (k : ℕ) → All IsColumn widths → end_of at ≤ length widths → HasSpan at.cell → IsStored at.cell
    → (lack : ℕ) → 1 ≤ lack → pos lack ≡ at.cell.width -ℤ width_over widths at.column at.cell.span.columns → k < length widths
    → (t : Bool) → (nat_le at.column k && nat_lt k (at.column + at.cell.span.columns)) ≡ t
    → IsColumn (cond t (width_at widths k +ℤ pos (share_of lack at.cell.span.columns (k - at.column))) (width_at widths k))
one_grown widths at k all inside span stored lack some e l true is =
    let both = and_parts _ _ is in
    let low = leb-true at.column k both.0 in
    let high = ltb-true k (at.column + at.cell.span.columns) both.1 in
    let same : at.column + (k - at.column) ≡ k = omega arith in
    subst (λ (n : ℕ). IsColumn (get_or widths n (pos 0) +ℤ pos (share_of lack at.cell.span.columns (k - at.column)))) same
    (share_in widths at (k - at.column) all inside span stored (omega arith) lack some e)
one_grown widths at k all inside span stored lack some e l false is = All-get_or IsColumn widths k (pos 0) l all

shared_in : (widths : List ℤ) (at : Standing) → All IsColumn widths → end_of at ≤ length widths → HasSpan at.cell → IsStored at.cell
    → (lack : ℕ) → 1 ≤ lack → pos lack ≡ at.cell.width -ℤ width_over widths at.column at.cell.span.columns
    → All IsColumn (shared widths at.column at.cell.span.columns lack)
shared_in widths at all inside span stored lack some e = λ k d h.
    let l : k < length widths = omega (arith, length-list_to {A = ℤ} (length widths)) in
    subst IsColumn (sym (get_or-list_to (length widths) k _ d l)) (one_grown widths at k all inside span stored lack some e l _ refl)

pub widened_in : (widths : List ℤ) (at : Standing) → All IsColumn widths → end_of at ≤ length widths → HasSpan at.cell → IsStored at.cell
    → All IsColumn (widened_by widths at)
widened_in widths at all inside span stored = by (nat_lt 1 at.cell.span.columns && int_lt (pos 0) lack) refl
  where
    lack : ℤ
    lack = at.cell.width -ℤ width_over widths at.column at.cell.span.columns

    by : (t : Bool) → (nat_lt 1 at.cell.span.columns && int_lt (pos 0) lack) ≡ t
        → All IsColumn (cond t (shared widths at.column at.cell.span.columns (unsigned_abs lack)) widths)
    by true e =
        let parts = positive lack (and_parts _ _ e).1 in
        shared_in widths at all inside span stored (unsigned_abs lack) parts.1 parts.0
    by false e = all

-- ---- the cells of a table
of_row : (P : SpanCell → Type 0) (row : ℕ) (cells : List SpanCell) (firsts : List ℕ) → All P cells → All (λ (at : Standing). P at.cell) (stand row cells firsts)
of_row P row [] firsts all = λ k d h. absurd (omega arith)
of_row P row (cell ∷ cells) [] all = λ k d h. absurd (omega arith)
of_row P row (cell ∷ cells) (first ∷ firsts) all =
    All-cons (λ (at : Standing). P at.cell) _ (stand row cells firsts) (All-head P cell cells all) (of_row P row cells firsts (All-tail P cell cells all))

-- what holds of all cells holds of them where they stand
pub of_rows : (P : SpanCell → Type 0) (row : ℕ) (rows : List (List SpanCell)) (firsts : List (List ℕ)) → All (All P) rows
    → All (λ (at : Standing). P at.cell) (stand_rows row rows firsts)
of_rows P row [] firsts all = λ k d h. absurd (omega arith)
of_rows P row (cells ∷ rows) [] all = λ k d h. absurd (omega arith)
of_rows P row (cells ∷ rows) (along ∷ firsts) all =
    All-append (λ (at : Standing). P at.cell) (stand row cells along) (stand_rows (row + 1) rows firsts)
    (of_row P row cells along (All-head (All P) cells rows all)) (of_rows P (row + 1) rows firsts (All-tail (All P) cells rows all))

pub stored_below : (row : ℕ) (rows : List (List SpanCell)) (firsts : List (List ℕ)) → All (All HasSpan) rows → All (All IsStored) rows
    → All IsStandingStored (stand_rows row rows firsts)
stored_below row rows firsts spans stored = λ k d h. record { span = of_rows HasSpan row rows firsts spans k d h; stored = of_rows IsStored row rows firsts stored k d h }

-- one cell more
pub widened_more : (widths : List ℤ) (cells : List Standing) (i : ℕ) (d : Standing) → i < length cells
    → widened_all widths (take (i + 1) cells) ≡ widened_by (widened_all widths (take i cells)) (get_or cells i d)
widened_more widths cells i d l =
    ap (widened_all widths) (take_more cells i d l) ∙ fold-append widened_by widths (take i cells) (get_or cells i d ∷ [])
