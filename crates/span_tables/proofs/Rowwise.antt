-- The height of a row by itself, one cell more.
use Rattle.std.proofs.Common.{◌≡◌, ◌∙◌, refl, ap, ℕ, ◌+◌, ◌<◌, arith, Bool, true, false, cond, List, [], ◌∷◌, ◌++◌, length, get_or, take, map, Option, ℤ, pos}
use Rattle.std.specs.List.{All, filter}
use Rattle.std.proofs.lemmas.List.{append-nil, map-append, take_more}
use Rattle.std.proofs.lemmas.List.Elements.{All-cons, All-head, All-tail, filter-append}
use Rattle.fixed_units.specs.Boxes.{farthest}
use Rattle.fixed_units.specs.Numbers.{IsWithin}
use Rattle.span_tables.specs.declared.cells.CellSpan.{CellSpan}
use Rattle.span_tables.specs.Bounds.{IsSpanStored}
use Rattle.span_tables.specs.Heights.{ascents_of, descents_of, spans_one_row, row_height_of, IsHeightStored}
use Rattle.span_tables.specs.Largest.{larger_of, deeper_of}
use Rattle.span_tables.specs.Widths.{largest}
use Rattle.span_tables.proofs.Alone.{largest-push}
use Rattle.span_tables.proofs.Growing.{largest_in}

-- what stands past the last cell
abbrev pub no_span : CellSpan
no_span = record { columns = 0; rows = 0; ascent = pos 0; descent = pos 0 }

pub highest_more : (cells : List CellSpan) (i : ℕ) (d : CellSpan) → i < length cells
    → largest (ascents_of (take (i + 1) cells)) ≡ larger_of (largest (ascents_of (take i cells))) (get_or cells i d).ascent
highest_more cells i d l =
    ap (λ (cs : List CellSpan). largest (ascents_of cs)) (take_more cells i d l)
    ∙ ap largest (map-append (λ (cell : CellSpan). cell.ascent) (take i cells) (get_or cells i d ∷ []))
    ∙ largest-push (ascents_of (take i cells)) (get_or cells i d).ascent

one_deeper : (t : Bool) (cells : List CellSpan) (cell : CellSpan)
    → largest (map (λ (c : CellSpan). c.descent) (cells ++ cond t (cell ∷ []) []))
    ≡ cond t (larger_of (largest (map (λ (c : CellSpan). c.descent) cells)) cell.descent) (largest (map (λ (c : CellSpan). c.descent) cells))
one_deeper true cells cell =
    ap largest (map-append (λ (c : CellSpan). c.descent) cells (cell ∷ []))
    ∙ largest-push (map (λ (c : CellSpan). c.descent) cells) cell.descent
one_deeper false cells cell = ap (λ (cs : List CellSpan). largest (map (λ (c : CellSpan). c.descent) cs)) (append-nil cells)

pub deepest_more : (cells : List CellSpan) (i : ℕ) (d : CellSpan) → i < length cells
    → largest (descents_of (take (i + 1) cells)) ≡ deeper_of (largest (descents_of (take i cells))) (get_or cells i d)
deepest_more cells i d l =
    ap (λ (cs : List CellSpan). largest (descents_of cs)) (take_more cells i d l)
    ∙ ap (λ (cs : List CellSpan). largest (map (λ (c : CellSpan). c.descent) cs)) (filter-append spans_one_row (take i cells) (get_or cells i d ∷ []))
    ∙ one_deeper (spans_one_row (get_or cells i d)) (filter spans_one_row (take i cells)) (get_or cells i d)

-- ---- how far it reaches
ascents_in : (cells : List CellSpan) → All IsSpanStored cells → All (IsWithin farthest) (ascents_of cells)
ascents_in [] all = λ k d h. absurd (omega arith)
ascents_in (cell ∷ cells) all =
    All-cons (IsWithin farthest) cell.ascent (ascents_of cells) (All-head IsSpanStored cell cells all).ascent (ascents_in cells (All-tail IsSpanStored cell cells all))

descents_in : (cells : List CellSpan) → All IsSpanStored cells → All (IsWithin farthest) (descents_of cells)
descents_in [] all = λ k d h. absurd (omega arith)
descents_in (cell ∷ cells) all = one (spans_one_row cell) (descents_in cells (All-tail IsSpanStored cell cells all))
  where
    one : (t : Bool) → All (IsWithin farthest) (descents_of cells)
        → All (IsWithin farthest) (map (λ (c : CellSpan). c.descent) (cond t (cell ∷ filter spans_one_row cells) (filter spans_one_row cells)))
    one true rest = All-cons (IsWithin farthest) cell.descent (descents_of cells) (All-head IsSpanStored cell cells all).descent rest
    one false rest = rest

pub row_height_in : (cells : List CellSpan) → All IsSpanStored cells → IsHeightStored (row_height_of cells)
row_height_in cells all = record {
  ascent = largest_in (ascents_of cells) (ascents_in cells all);
  descent = largest_in (descents_of cells) (descents_in cells all);
}
