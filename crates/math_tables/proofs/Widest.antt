-- Columns that are widened row by row are as wide as their widest cells.
use Rattle.std.proofs.Common.{◌≡◌, ◌∙◌, refl, sym, ap, subst, ℕ, zero, suc, ◌+◌, ◌<◌, ◌≤◌, max, ◌⊎◌, inl, inr, arith, List, [], ◌∷◌, ◌++◌, length, get_or, set, take, add-one, nat_lt, Bool, true, false, cond, unwrap_or, Option, Some, None, ℤ, pos, ◌≤ℤ◌}
use Rattle.std.specs.Int.{int_max}
use Rattle.std.specs.Prelude.{slice_get}
use Rattle.std.specs.List.{Contains, cons_option}
use Rattle.std.proofs.lemmas.Int.{by_lt_z, fold-int_max_bounds, fold-int_max_reached}
use Rattle.std.proofs.Math.Seq.{take-suc}
use Rattle.std.proofs.lemmas.Bool.{ltb-true, ltb-false}
use Rattle.std.proofs.lemmas.List.{same_lists, append-nil, length-take-le}
use Rattle.std.proofs.lemmas.List.Elements.{filter_map-append, All-cons}
use Rattle.std.proofs.lemmas.List.Sums.{fold-append}
use Rattle.std.proofs.lemmas.Option.{slice_get-get_or, slice_get_past, slice_get_cases, slice_get_within, unwrap_or-slice_get}
use Rattle.fixed_units.proofs.Signed.{signed}
use Rattle.fixed_units.proofs.Sums.{list_to-zero, length-list_to, slice_get-list_to}
use Rattle.math_tables.specs.Columns.{column_at, column_count, widest, columns_of, widened, widened_at}
use Rattle.math_tables.specs.Laws.{IsWidest}

-- ---- one cell more
pub widened-none : (widths : List ℤ) → widened widths [] ≡ widths
widened-none [] = refl
widened-none (width ∷ widths) = refl

-- a cell in a column that is there
pub widened-inside : (widths cells : List ℤ) (cell : ℤ) → length cells < length widths
    → widened widths (cells ++ cell ∷ [])
    ≡ set (widened widths cells) (length cells) (int_max (get_or (widened widths cells) (length cells) (pos 0)) cell)
widened-inside [] cells cell l = absurd (omega arith)
widened-inside (width ∷ widths) [] cell l = ap (λ rest. int_max width cell ∷ rest) (widened-none widths)
widened-inside (width ∷ widths) (x ∷ cells) cell l = ap (λ rest. int_max width x ∷ rest) (widened-inside widths cells cell (omega arith))

-- a cell past the last column
pub widened-past : (widths cells : List ℤ) (cell : ℤ) → length widths ≤ length cells
    → widened widths (cells ++ cell ∷ []) ≡ widened widths cells ++ cell ∷ []
widened-past [] cells cell l = refl
widened-past (width ∷ widths) [] cell l = absurd (omega arith)
widened-past (width ∷ widths) (x ∷ cells) cell l = ap (λ rest. int_max width x ∷ rest) (widened-past widths cells cell (omega arith))

-- ---- what is found at a place
pub length-widened : (widths cells : List ℤ) → length (widened widths cells) ≡ max (length widths) (length cells)
length-widened [] cells = omega arith
length-widened (width ∷ widths) [] = omega arith
length-widened (width ∷ widths) (cell ∷ cells) = let rest = length-widened widths cells in omega arith

-- the cells so far and one more
pub one_cell : (start row before after : List ℤ) (i : ℕ) (d : ℤ) → i < length row → before ≡ widened start (take i row)
    → after ≡ widened_at before i (get_or row i d) → after ≡ widened start (take (i + 1) row)
one_cell start row before after i d l so_far added = by (nat_lt i (length before)) refl added
  where
    more : take (i + 1) row ≡ take i row ++ (get_or row i d ∷ [])
    more = rw add-one (take-suc row i d l)

    long : length (take i row) ≡ i
    long = length-take-le i row (omega arith)

    wide : length before ≡ max (length start) i
    wide = ap length so_far ∙ length-widened start (take i row) ∙ ap (λ (n : ℕ). max (length start) n) long

    by : (t : Bool) → nat_lt i (length before) ≡ t
        → after ≡ cond t (set before i (int_max (get_or before i (pos 0)) (get_or row i d))) (before ++ get_or row i d ∷ [])
        → after ≡ widened start (take (i + 1) row)
    by true e is =
        let h : i < length before = ltb-true i (length before) e in
        let inside : length (take i row) < length start = omega (arith, wide, long) in
        is ∙ (λ k. set (so_far k) i (int_max (get_or (so_far k) i (pos 0)) (get_or row i d)))
        ∙ ap (λ (n : ℕ). set (widened start (take i row)) n (int_max (get_or (widened start (take i row)) n (pos 0)) (get_or row i d))) (sym long)
        ∙ sym (widened-inside start (take i row) (get_or row i d) inside)
        ∙ ap (widened start) (sym more)
    by false e is =
        let h : length before ≤ i = ltb-false i (length before) e in
        let past : length start ≤ length (take i row) = omega (arith, wide, long) in
        is ∙ ap (λ (xs : List ℤ). xs ++ get_or row i d ∷ []) so_far
        ∙ sym (widened-past start (take i row) (get_or row i d) past)
        ∙ ap (widened start) (sym more)

widened_both : (widths cells : List ℤ) (k : ℕ) (d : ℤ) → k < length widths → k < length cells
    → get_or (widened widths cells) k d ≡ int_max (get_or widths k d) (get_or cells k d)
widened_both [] cells k d h l = absurd (omega arith)
widened_both (width ∷ widths) [] k d h l = absurd (omega arith)
widened_both (width ∷ widths) (cell ∷ cells) zero d h l = refl
widened_both (width ∷ widths) (cell ∷ cells) (suc k) d h l = widened_both widths cells k d (omega arith) (omega arith)

widened_kept : (widths cells : List ℤ) (k : ℕ) (d : ℤ) → k < length widths → length cells ≤ k
    → get_or (widened widths cells) k d ≡ get_or widths k d
widened_kept [] cells k d h l = absurd (omega arith)
widened_kept (width ∷ widths) [] k d h l = refl
widened_kept (width ∷ widths) (cell ∷ cells) zero d h l = absurd (omega arith)
widened_kept (width ∷ widths) (cell ∷ cells) (suc k) d h l = widened_kept widths cells k d (omega arith) (omega arith)

widened_new : (widths cells : List ℤ) (k : ℕ) (d : ℤ) → length widths ≤ k → k < length cells
    → get_or (widened widths cells) k d ≡ get_or cells k d
widened_new [] cells k d h l = refl
widened_new (width ∷ widths) [] k d h l = absurd (omega arith)
widened_new (width ∷ widths) (cell ∷ cells) zero d h l = absurd (omega arith)
widened_new (width ∷ widths) (cell ∷ cells) (suc k) d h l = widened_new widths cells k d (omega arith) (omega arith)

-- ---- the cells at a place
-- no row has so many
column_empty : (k : ℕ) (rows : List (List ℤ)) → column_count rows ≤ k → column_at rows k ≡ []
column_empty k [] h = refl
column_empty k (row ∷ rows) h =
    ap (λ o. cons_option o (column_at rows k)) (slice_get_past row k (omega arith)) ∙ column_empty k rows (omega arith)

-- some row has
column_some : (k : ℕ) (rows : List (List ℤ)) → k < column_count rows → 0 < length (column_at rows k)
column_some k [] h = absurd (omega arith)
column_some k (row ∷ rows) h = by (slice_get_cases row k).1 (λ l. column_some k rows (omega arith))
  where
    by : ((x : ℤ) × (k < length row) × (slice_get row k ≡ Some x) × (get_or row k x ≡ x)) ⊎ ((length row ≤ k) × (slice_get row k ≡ None))
        → (length row ≤ k → 0 < length (column_at rows k)) → 0 < length (cons_option (slice_get row k) (column_at rows k))
    by (inl t) rest = subst (λ (o : Option ℤ). 0 < length (cons_option o (column_at rows k))) (sym t.2) (omega arith)
    by (inr t) rest = subst (λ (o : Option ℤ). 0 < length (cons_option o (column_at rows k))) (sym t.1) (rest t.0)

column_more : (k : ℕ) (rows : List (List ℤ)) (row : List ℤ)
    → column_at (rows ++ row ∷ []) k ≡ column_at rows k ++ cons_option (slice_get row k) []
column_more k rows row = filter_map-append (λ cells. slice_get cells k) rows (row ∷ [])

column_count-push : (rows : List (List ℤ)) (row : List ℤ) → column_count (rows ++ row ∷ []) ≡ max (column_count rows) (length row)
column_count-push [] row = omega arith
column_count-push (first ∷ rows) row = let rest = column_count-push rows row in omega arith

-- ---- the widest of them, with a row more
widest-push : (widths : List ℤ) (width : ℤ) → 0 < length widths → widest (widths ++ width ∷ []) ≡ int_max (widest widths) width
widest-push [] width h = absurd (omega arith)
widest-push (first ∷ widths) width h = fold-append int_max first widths (width ∷ [])

widest_both : (k : ℕ) (rows : List (List ℤ)) (row : List ℤ) (d : ℤ) → k < column_count rows → k < length row
    → widest (column_at (rows ++ row ∷ []) k) ≡ int_max (widest (column_at rows k)) (get_or row k d)
widest_both k rows row d h l =
    ap widest (column_more k rows row)
    ∙ ap (λ (o : Option ℤ). widest (column_at rows k ++ cons_option o [])) (slice_get-get_or row k d l)
    ∙ widest-push (column_at rows k) (get_or row k d) (column_some k rows h)

widest_kept : (k : ℕ) (rows : List (List ℤ)) (row : List ℤ) → length row ≤ k
    → widest (column_at (rows ++ row ∷ []) k) ≡ widest (column_at rows k)
widest_kept k rows row l =
    ap widest (column_more k rows row)
    ∙ ap (λ (o : Option ℤ). widest (column_at rows k ++ cons_option o [])) (slice_get_past row k l)
    ∙ ap widest (append-nil (column_at rows k))

widest_new : (k : ℕ) (rows : List (List ℤ)) (row : List ℤ) (d : ℤ) → column_count rows ≤ k → k < length row
    → widest (column_at (rows ++ row ∷ []) k) ≡ get_or row k d
widest_new k rows row d h l =
    ap widest (column_more k rows row)
    ∙ ap (λ (o : Option ℤ). widest (column_at rows k ++ cons_option o [])) (slice_get-get_or row k d l)
    ∙ ap (λ (before : List ℤ). widest (before ++ get_or row k d ∷ [])) (column_empty k rows h)

-- ---- the columns
pub columns_of-none : columns_of [] ≡ []
unfolding columns_of
columns_of-none = list_to-zero _

pub length-columns_of : (rows : List (List ℤ)) → length (columns_of rows) ≡ column_count rows
unfolding columns_of
length-columns_of rows = length-list_to (column_count rows) _

get_or-columns_of : (rows : List (List ℤ)) (k : ℕ) (d : ℤ) → k < column_count rows → get_or (columns_of rows) k d ≡ widest (column_at rows k)
unfolding columns_of
get_or-columns_of rows k d h =
    sym (unwrap_or-slice_get (columns_of rows) k d)
    ∙ ap (λ (o : Option ℤ). unwrap_or o d) (slice_get-list_to (column_count rows) k (λ place. widest (column_at rows place)) h)

pub columns_of-push : (rows : List (List ℤ)) (row : List ℤ) → columns_of (rows ++ row ∷ []) ≡ widened (columns_of rows) row
columns_of-push rows row = same_lists (columns_of (rows ++ row ∷ [])) (widened (columns_of rows) row) long items
  where
    count : length (columns_of rows) ≡ column_count rows
    count = length-columns_of rows

    more : column_count (rows ++ row ∷ []) ≡ max (column_count rows) (length row)
    more = column_count-push rows row

    long : length (columns_of (rows ++ row ∷ [])) ≡ length (widened (columns_of rows) row)
    long = omega (arith, length-columns_of (rows ++ row ∷ []), length-widened (columns_of rows) row, count, more)

    items : (k : ℕ) (d : ℤ) → k < length (columns_of (rows ++ row ∷ [])) → get_or (columns_of (rows ++ row ∷ [])) k d ≡ get_or (widened (columns_of rows) row) k d
    items k d h =
        let below : k < column_count (rows ++ row ∷ []) = omega (arith, length-columns_of (rows ++ row ∷ [])) in
        get_or-columns_of (rows ++ row ∷ []) k d below
        ∙ by_lt_z (pos k) (pos (column_count rows))
        (λ old. let o : k < column_count rows = omega (arith, signed) in
        let at = get_or-columns_of rows k d o in
        by_lt_z (pos k) (pos (length row))
        (λ inside. let i : k < length row = omega (arith, signed) in
        widest_both k rows row d o i ∙ ap (λ (w : ℤ). int_max w (get_or row k d)) (sym at)
        ∙ sym (widened_both (columns_of rows) row k d (omega (arith, count)) i))
        (λ outside. let i : length row ≤ k = omega (arith, signed) in
        widest_kept k rows row i ∙ sym at ∙ sym (widened_kept (columns_of rows) row k d (omega (arith, count)) i)))
        (λ past. let o : column_count rows ≤ k = omega (arith, signed) in
        let i : k < length row = omega (arith, more) in
        widest_new k rows row d o i ∙ sym (widened_new (columns_of rows) row k d (omega (arith, count)) i))

-- ---- the widest is as wide as one, and no other is wider
widest_is : (widths : List ℤ) → 0 < length widths → IsWidest widths (widest widths)
widest_is [] h = absurd (omega arith)
widest_is (first ∷ widths) h =
    let most = widest (first ∷ widths) in
    let bounds = fold-int_max_bounds first widths most refl in
    record {
      reached = one_of (fold-int_max_reached first widths most refl);
      bound = All-cons (λ z. z ≤ℤ most) first widths bounds.0 bounds.1;
    }
  where
    one_of : {most : ℤ} → (most ≡ first) ⊎ Contains widths most → Contains (first ∷ widths) most
    one_of (inl e) = (0, omega arith, sym e)
    one_of (inr at) = (suc at.0, omega (arith, at.1), at.2)

pub column_is_widest : (rows : List (List ℤ)) (k : ℕ) (width : ℤ) → slice_get (columns_of rows) k ≡ Some width → IsWidest (column_at rows k) width
unfolding columns_of
column_is_widest rows k width found =
    let within = slice_get_within (columns_of rows) k width found in
    let h : k < column_count rows = omega (arith, length-columns_of rows) in
    let here = slice_get-list_to (column_count rows) k (λ place. widest (column_at rows place)) h in
    let e : widest (column_at rows k) ≡ width = cc in
    subst (IsWidest (column_at rows k)) e (widest_is (column_at rows k) (column_some k rows h))

-- the rows so far and one more
pub one_row : (rows : List (List ℤ)) (before after : List ℤ) (i : ℕ) (d : List ℤ) → i < length rows → before ≡ columns_of (take i rows)
    → after ≡ widened before (get_or rows i d) → after ≡ columns_of (take (i + 1) rows)
one_row rows before after i d l so_far added =
    let more : take (i + 1) rows ≡ take i rows ++ (get_or rows i d ∷ []) = rw add-one (take-suc rows i d l) in
    added ∙ ap (λ (widths : List ℤ). widened widths (get_or rows i d)) so_far
    ∙ sym (columns_of-push (take i rows) (get_or rows i d)) ∙ ap columns_of (sym more)
