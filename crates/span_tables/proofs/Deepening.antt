-- How rows deepen to the cells over several of them, and how deep they may become.
use Rattle.std.proofs.Common.{◌≡◌, ◌∙◌, refl, ap, subst, ℕ, ◌+◌, ◌-◌, ◌*◌, ◌^◌, ◌<◌, ◌≤◌, ◌⊎◌, inl, inr, arith, Bool, true, false, cond, ◌&&◌, nat_lt, List, [], ◌∷◌, length, take, drop, get_or, fold, ℤ, pos, neg_ℤ, ◌+ℤ◌, ◌-ℤ◌, ◌≤ℤ◌}
use Rattle.std.specs.Prelude.{int_lt}
use Rattle.std.specs.List.{All}
use Rattle.std.proofs.lemmas.Bool.{cases_lt, and_parts}
use Rattle.std.proofs.lemmas.List.{take_more, drop_more}
use Rattle.std.proofs.lemmas.List.Elements.{All-get_or, All-set, All-weaker}
use Rattle.std.proofs.lemmas.List.Sums.{fold-append}
use Rattle.fixed_units.specs.Numbers.{IsWithin}
use Rattle.fixed_units.proofs.Signed.{signed}
use Rattle.fixed_units.proofs.Sums.{sum_to-zero, sum_to-add_one, sum_to_in}
use Rattle.span_tables.specs.Bounds.{HasSpan, IsStored}
use Rattle.fixed_units.specs.Boxes.{farthest}
use Rattle.span_tables.specs.Heights.{height_at, no_height, height_over, end_row, room_below, deepened, deepened_by, deepened_below, IsHeightStored, IsRow}
use Rattle.span_tables.specs.declared.cells.SpanCell.{SpanCell}
use Rattle.span_tables.specs.declared.cells.RowHeight.{RowHeight}
use Rattle.span_tables.proofs.Shares.{sum_but_one}

pub height_over-zero : (heights : List RowHeight) (first : ℕ) → height_over heights first 0 ≡ pos 0
unfolding height_over
height_over-zero heights first = sum_to-zero _

pub height_over-add_one : (heights : List RowHeight) (first place : ℕ)
    → height_over heights first (place + 1)
    ≡ height_over heights first place +ℤ ((height_at heights (first + place)).ascent +ℤ (height_at heights (first + place)).descent)
unfolding height_over
height_over-add_one heights first place = sum_to-add_one place _

pub row_within : (heights : List RowHeight) (row : ℕ) → All IsRow heights → row < length heights
    → IsWithin (2 ^ 43) ((height_at heights row).ascent +ℤ (height_at heights row).descent)
row_within heights row all l =
    let at = All-get_or IsRow heights row no_height l all in
    let ascent = at.ascent in
    record { low = omega (arith, signed); high = omega (arith, signed) }

pub height_over_in : (heights : List RowHeight) (first count : ℕ) → All IsRow heights → first + count ≤ length heights
    → IsWithin (count * 2 ^ 43) (height_over heights first count)
unfolding height_over
height_over_in heights first count all inside = sum_to_in count _ (λ i l. row_within heights (first + i) all (omega arith))

-- a row that gets a lack is at most as deep as the cell, and 1000 rows that are as flat as can be
over_last : (heights : List RowHeight) (first count : ℕ) → All IsRow heights → first + count ≤ length heights → (place : ℕ) → place < count
    → ((height_at heights (first + place)).ascent +ℤ (height_at heights (first + place)).descent +ℤ pos (2 ^ 31))
    ≤ℤ (height_over heights first count +ℤ pos (count * 2 ^ 31))
unfolding height_over
over_last heights first count all inside place l =
    sum_but_one (2 ^ 31) count (λ p. (height_at heights (first + p)).ascent +ℤ (height_at heights (first + p)).descent) place l
    (λ p h. let at = All-get_or IsRow heights (first + p) no_height (omega arith) all in let ascent = at.ascent in omega (arith, signed))

deep_at : (asc desc first cell sum lack : ℤ) (count : ℕ) → IsWithin farthest asc → neg_ℤ (pos farthest) ≤ℤ desc → neg_ℤ (pos farthest) ≤ℤ first → cell ≤ℤ pos farthest
    → count ≤ 1000 → (asc +ℤ desc +ℤ pos (2 ^ 31)) ≤ℤ (sum +ℤ pos (count * 2 ^ 31)) → lack ≡ cell -ℤ (first +ℤ sum) → int_lt (pos 0) lack ≡ true
    → IsRow (record { ascent = asc; descent = desc +ℤ lack })
deep_at asc desc first cell sum lack count a d f c few room e more = record { ascent = a; low = omega (arith, signed); high = omega (arith, signed) }

deep_in : (heights : List RowHeight) (row : ℕ) (cell : SpanCell) → All IsRow heights → row < length heights → HasSpan cell → IsStored cell
    → (end : ℕ) → end ≡ end_row heights row cell → (lack : ℤ) → lack ≡ cell.span.descent -ℤ ((height_at heights row).descent +ℤ height_over heights (row + 1) (end - (row + 1)))
    → int_lt (pos 0) lack ≡ true
    → IsRow (record (height_at heights (end - 1)) { descent = (height_at heights (end - 1)).descent +ℤ lack })
deep_in heights row cell all l span stored end e lack is more = by (cases_lt (row + 1) end)
  where
    here : IsRow (height_at heights row)
    here = All-get_or IsRow heights row no_height l all

    by : (row + 1 < end) ⊎ (end ≤ row + 1) → IsRow (record (height_at heights (end - 1)) { descent = (height_at heights (end - 1)).descent +ℤ lack })
    by (inl some) =
        let rows = span.rows_high in
        let low = span.rows_low in
        let count = end - (row + 1) in
        let same : row + 1 + (count - 1) ≡ end - 1 = omega arith in
        let inside : row + 1 + count ≤ length heights = omega arith in
        let room = over_last heights (row + 1) count all inside (count - 1) (omega arith) in
        let last = All-get_or IsRow heights (end - 1) no_height (omega arith) all in
        deep_at (height_at heights (end - 1)).ascent (height_at heights (end - 1)).descent (height_at heights row).descent cell.span.descent (height_over heights (row + 1) count)
        lack count last.ascent last.low here.low stored.span.descent.high (omega arith)
        (subst (λ (n : ℕ). ((height_at heights n).ascent +ℤ (height_at heights n).descent +ℤ pos (2 ^ 31)) ≤ℤ (height_over heights (row + 1) count +ℤ pos (count * 2 ^ 31))) same room)
        is more
    by (inr one) =
        let low = span.rows_low in
        let same : row ≡ end - 1 = omega arith in
        let none : end - (row + 1) ≡ 0 = omega arith in
        let nothing = ap (height_over heights (row + 1)) none ∙ height_over-zero heights (row + 1) in
        let first = here.ascent in
        let low_here = here.low in
        let depth = stored.span.descent in
        subst (λ (n : ℕ). IsRow (record (height_at heights n) { descent = (height_at heights n).descent +ℤ lack })) same
        record { ascent = here.ascent; low = omega (arith, signed, nothing, is, more); high = omega (arith, signed, nothing, is, more) }

pub deepened_in : (heights : List RowHeight) (row : ℕ) (cell : SpanCell) → All IsRow heights → row < length heights → HasSpan cell → IsStored cell
    → All IsRow (deepened_by row heights cell)
deepened_in heights row cell all l span stored = by (nat_lt 1 cell.span.rows && int_lt (pos 0) lack) refl
  where
    lack : ℤ
    lack = cell.span.descent -ℤ room_below heights row cell

    by : (t : Bool) → (nat_lt 1 cell.span.rows && int_lt (pos 0) lack) ≡ t → All IsRow (cond t (deepened heights (end_row heights row cell - 1) lack) heights)
    by true e =
        All-set IsRow heights (end_row heights row cell - 1) _
        (deep_in heights row cell all l span stored (end_row heights row cell) refl lack refl (and_parts _ _ e).1) all
    by false e = all

-- ---- one cell more, and one row more
pub along_more : (row : ℕ) (heights : List RowHeight) (cells : List SpanCell) (i : ℕ) (d : SpanCell) → i < length cells
    → fold (deepened_by row) heights (take (i + 1) cells) ≡ deepened_by row (fold (deepened_by row) heights (take i cells)) (get_or cells i d)
along_more row heights cells i d l =
    ap (fold (deepened_by row) heights) (take_more cells i d l) ∙ fold-append (deepened_by row) heights (take i cells) (get_or cells i d ∷ [])

pub below_more : (row : ℕ) (heights : List RowHeight) (rows : List (List SpanCell)) (i : ℕ) (d : List SpanCell) → i < length rows
    → deepened_below row (drop i rows) heights ≡ deepened_below (row + 1) (drop (i + 1) rows) (fold (deepened_by row) heights (get_or rows i d))
below_more row heights rows i d l = ap (λ (rest : List (List SpanCell)). deepened_below row rest heights) (drop_more rows i d l)

pub descent_in : (heights : List RowHeight) (row : ℕ) → All IsRow heights → row < length heights → IsWithin (2 ^ 42) (height_at heights row).descent
descent_in heights row all l =
    let at = All-get_or IsRow heights row no_height l all in
    record { low = omega (arith, signed); high = omega (arith, signed) }

pub rows_stored : (heights : List RowHeight) → All IsHeightStored heights → All IsRow heights
rows_stored heights all = All-weaker IsHeightStored IsRow
    (λ height at. record { ascent = at.ascent; low = at.descent.low; high = let high = at.descent.high in omega (arith, signed) }) heights all
