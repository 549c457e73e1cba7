-- Rows never become less deep, and each cell over several rows fits those that it covers.
use Rattle.std.proofs.Common.{◌≡◌, ◌≢◌, ◌∙◌, refl, sym, ap, subst, ℕ, zero, suc, ◌+◌, ◌-◌, ◌<◌, ◌≤◌, min, ◌⊎◌, inl, inr, arith, Bool, true, false, cond, ◌&&◌, nat_lt, List, [], ◌∷◌, length, get_or, fold, ℤ, pos, ◌+ℤ◌, ◌-ℤ◌, ◌≤ℤ◌}
use Rattle.std.specs.Prelude.{int_lt}
use Rattle.std.proofs.lemmas.Bool.{cases_lt, cases_eq, lt-ltb, and_parts}
use Rattle.std.proofs.lemmas.List.{length-set, get_or-set_same, get_or-set_other, get_or_past}
use Rattle.fixed_units.specs.Sums.{sum_to}
use Rattle.fixed_units.proofs.Signed.{signed}
use Rattle.fixed_units.proofs.Sums.{sum_to_same}
use Rattle.span_tables.specs.declared.cells.SpanCell.{SpanCell}
use Rattle.span_tables.specs.declared.cells.RowHeight.{RowHeight}
use Rattle.span_tables.specs.Heights.{height_at, no_height, height_over, end_row, room_below, deepened, deepened_by, deepened_below, span_heights_of}
use Rattle.span_tables.specs.Laws.{FitsBelow, cells_at, no_cell}
use Rattle.span_tables.proofs.Deepening.{height_over-zero}
use Rattle.span_tables.proofs.Fitting.{sum_wider}

-- ---- deeper rows
pub record IsDeeper (before after : List RowHeight) : Type 0 where
  pub count : length after ≡ length before
  pub ascent : (k : ℕ) → (height_at after k).ascent ≡ (height_at before k).ascent
  pub descent : (k : ℕ) → (height_at before k).descent ≤ℤ (height_at after k).descent

as_deep : (heights : List RowHeight) → IsDeeper heights heights
as_deep heights = record { count = refl; ascent = λ k. refl; descent = λ k. omega (arith, signed) }

deeper_twice : (a b c : List RowHeight) → IsDeeper a b → IsDeeper b c → IsDeeper a c
deeper_twice a b c first second = record {
  count = second.count ∙ first.count;
  ascent = λ k. second.ascent k ∙ first.ascent k;
  descent = λ k. let x = first.descent k in let y = second.descent k in omega (arith, signed);
}

raised_deeper : (heights : List RowHeight) (row : ℕ) (lack : ℤ) → int_lt (pos 0) lack ≡ true → IsDeeper heights (deepened heights row lack)
raised_deeper heights row lack more = record {
  count = length-set heights row _;
  ascent = λ k. ascent k (cases_lt k (length heights)) (cases_eq k row);
  descent = λ k. descent k (cases_lt k (length heights)) (cases_eq k row);
}
  where
    value : RowHeight
    value = record (height_at heights row) { descent = (height_at heights row).descent +ℤ lack }

    there : (k : ℕ) → k < length heights → k ≡ row → height_at (deepened heights row lack) k ≡ value
    there k l same = ap (height_at (deepened heights row lack)) same ∙ get_or-set_same heights row value no_height (omega arith)

    past : (k : ℕ) → length heights ≤ k → height_at (deepened heights row lack) k ≡ height_at heights k
    past k h = get_or_past (deepened heights row lack) k no_height (omega (arith, length-set heights row value)) ∙ sym (get_or_past heights k no_height h)

    ascent : (k : ℕ) → (k < length heights) ⊎ (length heights ≤ k) → (k ≡ row) ⊎ (k ≡ row → ⊥)
        → (height_at (deepened heights row lack) k).ascent ≡ (height_at heights k).ascent
    ascent k (inl l) (inl same) = ap (λ (h : RowHeight). h.ascent) (there k l same) ∙ ap (λ (n : ℕ). (height_at heights n).ascent) (sym same)
    ascent k (inl l) (inr other) = ap (λ (h : RowHeight). h.ascent) (get_or-set_other heights row k value no_height other)
    ascent k (inr h) any = ap (λ (h : RowHeight). h.ascent) (past k h)

    descent : (k : ℕ) → (k < length heights) ⊎ (length heights ≤ k) → (k ≡ row) ⊎ (k ≡ row → ⊥)
        → (height_at heights k).descent ≤ℤ (height_at (deepened heights row lack) k).descent
    descent k (inl l) (inl same) =
        let e = ap (λ (h : RowHeight). h.descent) (there k l same) in
        let f = ap (λ (n : ℕ). (height_at heights n).descent) same in
        omega (arith, signed, more)
    descent k (inl l) (inr other) = let e = ap (λ (h : RowHeight). h.descent) (get_or-set_other heights row k value no_height other) in omega (arith, signed)
    descent k (inr h) any = let e = ap (λ (h : RowHeight). h.descent) (past k h) in omega (arith, signed)

by_deeper : (row : ℕ) (heights : List RowHeight) (cell : SpanCell) → IsDeeper heights (deepened_by row heights cell)
by_deeper row heights cell = by (nat_lt 1 cell.span.rows && int_lt (pos 0) lack) refl
  where
    lack : ℤ
    lack = cell.span.descent -ℤ room_below heights row cell

    by : (t : Bool) → (nat_lt 1 cell.span.rows && int_lt (pos 0) lack) ≡ t → IsDeeper heights (cond t (deepened heights (end_row heights row cell - 1) lack) heights)
    by true e = raised_deeper heights (end_row heights row cell - 1) lack (and_parts _ _ e).1
    by false e = as_deep heights

along_deeper : (row : ℕ) (heights : List RowHeight) (cells : List SpanCell) → IsDeeper heights (fold (deepened_by row) heights cells)
along_deeper row heights [] = as_deep heights
along_deeper row heights (cell ∷ cells) =
    deeper_twice heights (deepened_by row heights cell) (fold (deepened_by row) (deepened_by row heights cell) cells)
    (by_deeper row heights cell) (along_deeper row (deepened_by row heights cell) cells)

below_deeper : (row : ℕ) (rows : List (List SpanCell)) (heights : List RowHeight) → IsDeeper heights (deepened_below row rows heights)
below_deeper row [] heights = as_deep heights
below_deeper row (cells ∷ rows) heights =
    deeper_twice heights (fold (deepened_by row) heights cells) (deepened_below (row + 1) rows (fold (deepened_by row) heights cells))
    (along_deeper row heights cells) (below_deeper (row + 1) rows (fold (deepened_by row) heights cells))

-- ---- more room below
over_deeper : (before after : List RowHeight) (first count : ℕ) → IsDeeper before after → height_over before first count ≤ℤ height_over after first count
unfolding height_over
over_deeper before after first count deeper = sum_wider count _ _ (λ i.
    let a = deeper.ascent (first + i) in
    let d = deeper.descent (first + i) in
    omega (arith, signed))

room_deeper : (before after : List RowHeight) (row : ℕ) (cell : SpanCell) → IsDeeper before after → room_below before row cell ≤ℤ room_below after row cell
room_deeper before after row cell deeper =
    let end : end_row after row cell ≡ end_row before row cell = ap (λ (n : ℕ). min (row + cell.span.rows) n) deeper.count in
    let over = over_deeper before after (row + 1) (end_row before row cell - (row + 1)) deeper in
    let same = ap (λ (n : ℕ). height_over after (row + 1) (n - (row + 1))) end in
    let here = deeper.descent row in
    omega (arith, signed)

-- ---- a sum of which one item grows
sum_one_more : (n : ℕ) (f g : ℕ → ℤ) (i : ℕ) (lack : ℤ) → i < n → g i ≡ f i +ℤ lack → ((j : ℕ) → j < n → j ≢ i → g j ≡ f j) → sum_to n g ≡ sum_to n f +ℤ lack
unfolding sum_to
sum_one_more zero f g i lack l here others = absurd (omega arith)
sum_one_more (suc n) f g i lack l here others =
    last (cases_eq i n) (λ h. sum_one_more n f g i lack h here (λ j k ne. others j (omega arith) ne))
  where
    last : (i ≡ n) ⊎ (i ≡ n → ⊥) → (i < n → sum_to n g ≡ sum_to n f +ℤ lack) → (sum_to n g +ℤ g n) ≡ (sum_to n f +ℤ f n) +ℤ lack
    last (inl same) next =
        let before = sum_to_same n g f (λ j h. others j (omega arith) (λ e. omega arith)) in
        let gi = ap g same in
        let fi = ap f same in
        omega (arith, signed)
    last (inr other) next =
        let before = next (omega arith) in
        let e = others n (omega arith) (λ e. other (sym e)) in
        omega (arith, signed)

over_one_more : (heights : List RowHeight) (first count place : ℕ) (lack : ℤ) → place < count → first + count ≤ length heights
    → height_over (deepened heights (first + place) lack) first count ≡ height_over heights first count +ℤ lack
unfolding height_over
over_one_more heights first count place lack l inside =
    sum_one_more count (λ p. (height_at heights (first + p)).ascent +ℤ (height_at heights (first + p)).descent)
    (λ p. (height_at (deepened heights (first + place) lack) (first + p)).ascent +ℤ (height_at (deepened heights (first + place) lack) (first + p)).descent) place lack l
    (let e = get_or-set_same heights (first + place) (record (height_at heights (first + place)) { descent = (height_at heights (first + place)).descent +ℤ lack }) no_height (omega arith) in
    let a = ap (λ (h : RowHeight). h.ascent) e in
    let d = ap (λ (h : RowHeight). h.descent) e in
    omega (arith, signed))
    (λ j h ne.
    let apart : first + j ≢ first + place = λ e. ne (omega arith) in
    let e = get_or-set_other heights (first + place) (first + j) (record (height_at heights (first + place)) { descent = (height_at heights (first + place)).descent +ℤ lack }) no_height apart in
    let a = ap (λ (h : RowHeight). h.ascent) e in
    let d = ap (λ (h : RowHeight). h.descent) e in
    omega (arith, signed))

-- ---- a cell fits the rows under it once it had its turn
room_more : (heights : List RowHeight) (row : ℕ) (cell : SpanCell) (lack : ℤ) → row < length heights → 1 < cell.span.rows
    → room_below (deepened heights (end_row heights row cell - 1) lack) row cell ≡ room_below heights row cell +ℤ lack
room_more heights row cell lack l more = by (cases_lt (row + 1) (end_row heights row cell))
  where
    end : ℕ
    end = end_row heights row cell

    after : List RowHeight
    after = deepened heights (end_row heights row cell - 1) lack

    same_end : end_row after row cell ≡ end_row heights row cell
    same_end = ap (λ (n : ℕ). min (row + cell.span.rows) n) (length-set heights (end_row heights row cell - 1) _)

    by : (row + 1 < end_row heights row cell) ⊎ (end_row heights row cell ≤ row + 1) → room_below after row cell ≡ room_below heights row cell +ℤ lack
    by (inl some) =
        let count = end_row heights row cell - (row + 1) in
        let last : row + 1 + (count - 1) ≡ end_row heights row cell - 1 = omega arith in
        let over = over_one_more heights (row + 1) count (count - 1) lack (omega arith) (omega arith) in
        let same = ap (λ (n : ℕ). height_over (deepened heights n lack) (row + 1) count) last in
        let ends = ap (λ (n : ℕ). height_over after (row + 1) (n - (row + 1))) same_end in
        let apart : row ≢ end_row heights row cell - 1 = omega arith in
        let below = height_at heights (end_row heights row cell - 1) in
        let here : (height_at after row).descent ≡ (height_at heights row).descent = ap (λ (h : RowHeight). h.descent)
        (get_or-set_other heights (end_row heights row cell - 1) row (record below { descent = below.descent +ℤ lack }) no_height apart) in
        omega (arith, signed)
    by (inr one) =
        let last : end_row heights row cell - 1 ≡ row = omega arith in
        let none : end_row heights row cell - (row + 1) ≡ 0 = omega arith in
        let before = ap (height_over heights (row + 1)) none ∙ height_over-zero heights (row + 1) in
        let ends = ap (λ (n : ℕ). height_over after (row + 1) (n - (row + 1))) same_end ∙ ap (height_over after (row + 1)) none ∙ height_over-zero after (row + 1) in
        let here = ap (λ (n : ℕ). (height_at (deepened heights n lack) row).descent) last
        ∙ ap (λ (h : RowHeight). h.descent) (get_or-set_same heights row (record (height_at heights row) { descent = (height_at heights row).descent +ℤ lack }) no_height l) in
        omega (arith, signed)

fits_one : (heights : List RowHeight) (row : ℕ) (cell : SpanCell) → row < length heights → FitsBelow (deepened_by row heights cell) row cell
fits_one heights row cell l more =
    by (int_lt (pos 0) lack) refl
  where
    lack : ℤ
    lack = cell.span.descent -ℤ room_below heights row cell

    kept : (t : Bool) → int_lt (pos 0) lack ≡ t → cell.span.descent ≤ℤ room_below (cond t (deepened heights (end_row heights row cell - 1) lack) heights) row cell
    kept true e = let room = room_more heights row cell lack l more in omega (arith, signed)
    kept false e = omega (arith, signed, e)

    by : (t : Bool) → int_lt (pos 0) lack ≡ t → cell.span.descent ≤ℤ room_below (deepened_by row heights cell) row cell
    by t e =
        subst (λ (s : Bool). cell.span.descent ≤ℤ room_below (cond (s && int_lt (pos 0) lack) (deepened heights (end_row heights row cell - 1) lack) heights) row cell)
        (sym (lt-ltb 1 cell.span.rows more)) (kept (int_lt (pos 0) lack) refl)

fits_along : (row : ℕ) (heights : List RowHeight) (cells : List SpanCell) (place : ℕ) → row < length heights → place < length cells
    → FitsBelow (fold (deepened_by row) heights cells) row (get_or cells place no_cell)
fits_along row heights [] place l h more = absurd (omega arith)
fits_along row heights (cell ∷ cells) zero l h more =
    let own = fits_one heights row cell l more in
    let later = room_deeper (deepened_by row heights cell) (fold (deepened_by row) (deepened_by row heights cell) cells) row cell (along_deeper row (deepened_by row heights cell) cells) in
    omega (arith, signed)
fits_along row heights (cell ∷ cells) (suc place) l h more =
    fits_along row (deepened_by row heights cell) cells place (let count = (by_deeper row heights cell).count in omega arith) (omega arith) more

fits_rows : (start : ℕ) (rows : List (List SpanCell)) (heights : List RowHeight) (i place row : ℕ) → row ≡ start + i → start + length rows ≤ length heights → i < length rows
    → place < length (cells_at rows i) → FitsBelow (deepened_below start rows heights) row (get_or (cells_at rows i) place no_cell)
fits_rows start [] heights i place row e inside l h more = absurd (omega arith)
fits_rows start (cells ∷ rows) heights zero place row e inside l h more =
    let here : row ≡ start = omega arith in
    let own = subst (λ (n : ℕ). FitsBelow (fold (deepened_by start) heights cells) n (get_or cells place no_cell)) (sym here)
    (fits_along start heights cells place (omega arith) h) more in
    let later = room_deeper (fold (deepened_by start) heights cells) (deepened_below (start + 1) rows (fold (deepened_by start) heights cells)) row (get_or cells place no_cell)
    (below_deeper (start + 1) rows (fold (deepened_by start) heights cells)) in
    omega (arith, signed)
fits_rows start (cells ∷ rows) heights (suc i) place row e inside l h more =
    fits_rows (start + 1) rows (fold (deepened_by start) heights cells) i place row (omega arith) (let count = (along_deeper start heights cells).count in omega arith) (omega arith) h more

pub cells_fit_below : (rows : List (List SpanCell)) (heights : List RowHeight) (row place : ℕ) → length heights ≡ length rows → row < length rows
    → place < length (cells_at rows row) → FitsBelow (span_heights_of rows heights) row (get_or (cells_at rows row) place no_cell)
cells_fit_below rows heights row place each l h = fits_rows 0 rows heights row place row (omega arith) (omega arith) l h
