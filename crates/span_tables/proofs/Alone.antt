-- The largest widths of the cells that span one column, one cell more.
use Rattle.std.proofs.Common.{◌≡◌, ◌∙◌, refl, sym, ap, ℕ, ◌+◌, ◌<◌, ◌≤◌, ◌⊎◌, inl, inr, arith, Bool, true, false, cond, eqb, List, [], ◌∷◌, ◌++◌, length, get_or, set, take, map, Option, Some, None, ℤ, pos}
use Rattle.std.specs.Int.{int_max}
use Rattle.std.specs.List.{filter}
use Rattle.std.proofs.lemmas.Bool.{cases_eq, eq-eqb, ne_eqb, eqb-true, eqb-false, and_from, and_left, and_right}
use Rattle.std.proofs.lemmas.List.{append-nil, take_more, length-map, length-set, get_or-map, get_or-set_same, get_or-set_other, ext_get_or}
use Rattle.std.proofs.lemmas.List.Sums.{fold-append}
use Rattle.fixed_units.proofs.Sums.{length-list_to}
use Rattle.span_tables.proofs.Listed.{get_or-list_to}
use Rattle.span_tables.specs.declared.standing.Standing.{Standing}
use Rattle.span_tables.specs.Standing.{end_of, reach}
use Rattle.span_tables.specs.Widths.{is_alone, widths_alone, largest, base_width_of, base_widths_of}
use Rattle.span_tables.specs.Largest.{larger_of, IsLargestAlone, or_zero_of, widened_one}

pub largest-push : (widths : List ℤ) (width : ℤ) → largest (widths ++ width ∷ []) ≡ larger_of (largest widths) width
largest-push [] width = refl
largest-push (first ∷ widths) width = ap Some (fold-append int_max first widths (width ∷ []))

one_alone : (t : Bool) (at : Standing) → map (λ (a : Standing). a.cell.width) (cond t (at ∷ []) []) ≡ cond t (at.cell.width ∷ []) []
one_alone true at = refl
one_alone false at = refl

first_alone : (t : Bool) (at : Standing) (some more : List Standing) (tail : List ℤ)
    → map (λ (a : Standing). a.cell.width) more ≡ map (λ (a : Standing). a.cell.width) some ++ tail
    → map (λ (a : Standing). a.cell.width) (cond t (at ∷ more) more) ≡ map (λ (a : Standing). a.cell.width) (cond t (at ∷ some) some) ++ tail
first_alone true at some more tail e = ap (λ (ws : List ℤ). at.cell.width ∷ ws) e
first_alone false at some more tail e = e

alone-push : (cells : List Standing) (at : Standing) (column : ℕ)
    → widths_alone (cells ++ at ∷ []) column ≡ widths_alone cells column ++ cond (is_alone column at) (at.cell.width ∷ []) []
alone-push [] at column = one_alone (is_alone column at) at
alone-push (first ∷ cells) at column =
    first_alone (is_alone column first) first (filter (is_alone column) cells) (filter (is_alone column) (cells ++ at ∷ []))
    (cond (is_alone column at) (at.cell.width ∷ []) []) (alone-push cells at column)

-- one cell more, alone in the column or not
largest_yes : (cells : List Standing) (i : ℕ) (d : Standing) (column : ℕ) → i < length cells → is_alone column (get_or cells i d) ≡ true
    → largest (widths_alone (take (i + 1) cells) column) ≡ larger_of (largest (widths_alone (take i cells) column)) (get_or cells i d).cell.width
largest_yes cells i d column l is_yes =
    let at = get_or cells i d in
    ap (λ (cs : List Standing). largest (widths_alone cs column)) (take_more cells i d l)
    ∙ ap largest (alone-push (take i cells) at column)
    ∙ ap (λ (t : Bool). largest (widths_alone (take i cells) column ++ cond t (at.cell.width ∷ []) [])) is_yes
    ∙ largest-push (widths_alone (take i cells) column) at.cell.width

largest_no : (cells : List Standing) (i : ℕ) (d : Standing) (column : ℕ) → i < length cells → is_alone column (get_or cells i d) ≡ false
    → largest (widths_alone (take (i + 1) cells) column) ≡ largest (widths_alone (take i cells) column)
largest_no cells i d column l is_no =
    let at = get_or cells i d in
    ap (λ (cs : List Standing). largest (widths_alone cs column)) (take_more cells i d l)
    ∙ ap largest (alone-push (take i cells) at column)
    ∙ ap (λ (t : Bool). largest (widths_alone (take i cells) column ++ cond t (at.cell.width ∷ []) [])) is_no
    ∙ ap largest (append-nil (widths_alone (take i cells) column))

-- a cell that spans its column alone
alone_more : (before after : List (Option ℤ)) (cells : List Standing) (i : ℕ) (d : Standing) → IsLargestAlone before (take i cells) → i < length cells
    → (get_or cells i d).cell.span.columns ≡ 1 → (get_or cells i d).column < length before
    → after ≡ set before (get_or cells i d).column (larger_of (get_or before (get_or cells i d).column None) (get_or cells i d).cell.width)
    → IsLargestAlone after (take (i + 1) cells)
alone_more before after cells i d so_far l one inside is column h = by (cases_eq column at.column)
  where
    at : Standing
    at = get_or cells i d

    long : length after ≡ length before
    long = ap length is ∙ length-set before at.column _

    value : Option ℤ
    value = larger_of (get_or before at.column None) at.cell.width

    by : (column ≡ at.column) ⊎ (column ≡ at.column → ⊥) → get_or after column None ≡ largest (widths_alone (take (i + 1) cells) column)
    by (inl same) =
        ap (λ (k : ℕ). get_or after k None) same ∙ ap (λ (ws : List (Option ℤ)). get_or ws at.column None) is
        ∙ get_or-set_same before at.column value None inside
        ∙ ap (λ (k : ℕ). larger_of (get_or before k None) at.cell.width) (sym same)
        ∙ ap (λ (o : Option ℤ). larger_of o at.cell.width) (so_far column (omega (arith, long)))
        ∙ sym (largest_yes cells i d column l (and_from _ _ (eq-eqb _ _ one) (eq-eqb _ _ (sym same))))
    by (inr other) =
        ap (λ (ws : List (Option ℤ)). get_or ws column None) is ∙ get_or-set_other before at.column column value None other
        ∙ so_far column (omega (arith, long))
        ∙ sym (largest_no cells i d column l (and_right _ _ (ne_eqb _ _ (λ e. other (sym e)))))

-- a cell that spans more
alone_skip : (before : List (Option ℤ)) (cells : List Standing) (i : ℕ) (d : Standing) → IsLargestAlone before (take i cells) → i < length cells
    → ((get_or cells i d).cell.span.columns ≡ 1 → ⊥) → IsLargestAlone before (take (i + 1) cells)
alone_skip before cells i d so_far l more column h = so_far column h ∙ sym (largest_no cells i d column l (and_left _ _ (ne_eqb _ _ more)))

pub alone_step : (before : List (Option ℤ)) (cells : List Standing) (i : ℕ) (d : Standing) → IsLargestAlone before (take i cells) → i < length cells
    → end_of (get_or cells i d) ≤ length before → IsLargestAlone (widened_one before (get_or cells i d)) (take (i + 1) cells)
alone_step before cells i d so_far l inside = by (eqb (get_or cells i d).cell.span.columns 1) refl
  where
    at : Standing
    at = get_or cells i d

    by : (t : Bool) → eqb at.cell.span.columns 1 ≡ t
        → IsLargestAlone (cond t (set before at.column (larger_of (get_or before at.column None) at.cell.width)) before) (take (i + 1) cells)
    by true e = let one = eqb-true at.cell.span.columns 1 e in alone_more before _ cells i d so_far l one (omega arith) refl
    by false e = alone_skip before cells i d so_far l (eqb-false at.cell.span.columns 1 e)

-- the widths themselves, with 0 where there is none
pub base_from_largest : (widths : List (Option ℤ)) (cells : List Standing) → IsLargestAlone widths cells → length widths ≡ reach cells
    → map or_zero_of widths ≡ base_widths_of cells
base_from_largest widths cells best count =
    ext_get_or (pos 0) (map or_zero_of widths) (base_widths_of cells) long (λ k h. at k (omega (arith, length-map widths or_zero_of)))
  where
    long : length (map or_zero_of widths) ≡ length (base_widths_of cells)
    long = length-map widths _ ∙ count ∙ sym (length-list_to (reach cells) (base_width_of cells))

    at : (k : ℕ) → k < length widths → get_or (map or_zero_of widths) k (pos 0) ≡ get_or (base_widths_of cells) k (pos 0)
    at k h =
        get_or-map or_zero_of widths k None (pos 0) h
        ∙ ap or_zero_of (best k h)
        ∙ sym (get_or-list_to (reach cells) k (base_width_of cells) (pos 0) (omega (arith, count)))
