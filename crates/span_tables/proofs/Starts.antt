-- Where columns begin, and the slots of cells.
use Rattle.std.proofs.Common.{◌≡◌, ◌∙◌, refl, sym, ap, subst, ℕ, zero, suc, ◌+◌, ◌-◌, ◌^◌, ◌<◌, ◌≤◌, arith, List, [], ◌∷◌, ◌++◌, length, take, get_or, ℤ, pos, ◌+ℤ◌, ◌-ℤ◌}
use Rattle.std.specs.List.{All}
use Rattle.std.proofs.lemmas.List.{take_more, length-take-le}
use Rattle.fixed_units.specs.Numbers.{IsWithin}
use Rattle.fixed_units.proofs.Signed.{signed}
use Rattle.fixed_units.proofs.Sums.{length-list_to}
use Rattle.span_tables.proofs.Listed.{get_or-list_to}
use Rattle.fixed_units.proofs.Within.{widened}
use Rattle.span_tables.specs.declared.cells.SpanCell.{SpanCell}
use Rattle.span_tables.specs.Slots.{slots_along, slots_of, starts_of, pairs_by, slots_by, AreInside}
use Rattle.span_tables.specs.Widths.{IsColumn, width_at, width_over}
use Rattle.span_tables.proofs.Shares.{width_over-zero, width_over-add_one, width_over_in}

-- ---- sums from the start
pub width_over-split : (widths : List ℤ) (first count : ℕ) → width_over widths 0 (first + count) ≡ width_over widths 0 first +ℤ width_over widths first count
width_over-split widths first zero =
    let none = width_over-zero widths first in
    let here : first + zero ≡ first = omega arith in
    let same = ap (width_over widths 0) here in
    omega (arith, signed)
width_over-split widths first (suc count) =
    let before = width_over-split widths first count in
    let more = width_over-add_one widths 0 (first + count) in
    let last = width_over-add_one widths first count in
    let start : 0 + (first + count) ≡ first + count = omega arith in
    let same = ap (λ (n : ℕ). get_or widths n (pos 0)) start in
    let next : first + suc count ≡ first + count + 1 = omega arith in
    let next_count : suc count ≡ count + 1 = omega arith in
    let all = ap (width_over widths 0) next in
    let part = ap (width_over widths first) next_count in
    omega (arith, signed)

pub start_at : (widths : List ℤ) (column : ℕ) → column ≤ length widths → width_at (starts_of widths) column ≡ width_over widths 0 column
start_at widths column l = get_or-list_to (length widths + 1) column (width_over widths 0) (pos 0) (omega arith)

pub length-starts_of : (widths : List ℤ) → length (starts_of widths) ≡ length widths + 1
length-starts_of widths = length-list_to (length widths + 1) (width_over widths 0)

pub starts_in : (widths : List ℤ) → All IsColumn widths → length widths ≤ 2 ^ 22 → All (IsWithin (2 ^ 58)) (starts_of widths)
starts_in widths all few = λ k d h.
    let l : k ≤ length widths = omega (arith, length-starts_of widths) in
    let within = widened (2 ^ 58) (width_over_in widths 0 k all (omega arith)) (omega arith) in
    subst (IsWithin (2 ^ 58)) (sym (get_or-list_to (length widths + 1) k (width_over widths 0) d (omega arith))) within

-- ---- the slots of a row
slot_wide : (widths : List ℤ) (first count : ℕ) → first + count ≤ length widths
    → width_at (starts_of widths) (first + count) -ℤ width_at (starts_of widths) first ≡ width_over widths first count
slot_wide widths first count l =
    let end = start_at widths (first + count) l in
    let start = start_at widths first (omega arith) in
    let split = width_over-split widths first count in
    omega (arith, signed)

pairs_are : (widths : List ℤ) (cells : List SpanCell) (firsts : List ℕ) → AreInside (length widths) cells firsts
    → pairs_by (starts_of widths) cells firsts ≡ slots_along widths cells firsts
pairs_are widths [] firsts inside = refl
pairs_are widths (cell ∷ cells) [] inside = refl
pairs_are widths (cell ∷ cells) (first ∷ firsts) inside =
    let here : first + cell.span.columns ≤ length widths = inside.inside 0 cell (omega arith) in
    let each = inside.each in
    let rest = pairs_are widths cells firsts record { each = omega arith; inside = λ place d l. inside.inside (suc place) d (omega arith) } in
    ap (λ (x : ℤ). x ∷ (width_at (starts_of widths) (first + cell.span.columns) -ℤ width_at (starts_of widths) first) ∷ pairs_by (starts_of widths) cells firsts)
    (start_at widths first (omega arith))
    ∙ ap (λ (w : ℤ). width_over widths 0 first ∷ w ∷ pairs_by (starts_of widths) cells firsts) (slot_wide widths first cell.span.columns here)
    ∙ ap (λ (more : List ℤ). width_over widths 0 first ∷ width_over widths first cell.span.columns ∷ more) rest

pub slots_are : (widths : List ℤ) (cells : List SpanCell) (firsts : List ℕ) → AreInside (length widths) cells firsts
    → slots_by (starts_of widths) cells firsts ≡ slots_of cells firsts widths
slots_are widths cells firsts inside =
    let last : length (starts_of widths) - 1 ≡ length widths = omega (arith, length-starts_of widths) in
    ap (λ (n : ℕ). width_at (starts_of widths) n ∷ pairs_by (starts_of widths) cells firsts) last
    ∙ ap (λ (total : ℤ). total ∷ pairs_by (starts_of widths) cells firsts) (start_at widths (length widths) (omega arith))
    ∙ ap (λ (more : List ℤ). width_over widths 0 (length widths) ∷ more) (pairs_are widths cells firsts inside)

-- one cell more
pairs-push : (starts : List ℤ) (cells : List SpanCell) (firsts : List ℕ) (cell : SpanCell) (first : ℕ) → length cells ≡ length firsts
    → pairs_by starts (cells ++ cell ∷ []) (firsts ++ first ∷ [])
    ≡ pairs_by starts cells firsts ++ width_at starts first ∷ (width_at starts (first + cell.span.columns) -ℤ width_at starts first) ∷ []
pairs-push starts [] [] cell first same = refl
pairs-push starts [] (f ∷ firsts) cell first same = absurd (omega arith)
pairs-push starts (c ∷ cells) [] cell first same = absurd (omega arith)
pairs-push starts (c ∷ cells) (f ∷ firsts) cell first same =
    ap (λ (more : List ℤ). width_at starts f ∷ (width_at starts (f + c.span.columns) -ℤ width_at starts f) ∷ more)
    (pairs-push starts cells firsts cell first (omega arith))

pub pairs_more : (starts : List ℤ) (cells : List SpanCell) (firsts : List ℕ) (i : ℕ) (d : SpanCell) → i < length cells → length firsts ≡ length cells
    → pairs_by starts (take (i + 1) cells) (take (i + 1) firsts)
    ≡ pairs_by starts (take i cells) (take i firsts)
    ++ width_at starts (get_or firsts i 0) ∷ (width_at starts (get_or firsts i 0 + (get_or cells i d).span.columns) -ℤ width_at starts (get_or firsts i 0)) ∷ []
pairs_more starts cells firsts i d l same =
    ap (λ (cs : List SpanCell). pairs_by starts cs (take (i + 1) firsts)) (take_more cells i d l)
    ∙ ap (λ (fs : List ℕ). pairs_by starts (take i cells ++ get_or cells i d ∷ []) fs) (take_more firsts i 0 (omega arith))
    ∙ pairs-push starts (take i cells) (take i firsts) (get_or cells i d) (get_or firsts i 0)
    (length-take-le i cells (omega arith) ∙ sym (length-take-le i firsts (omega arith)))
