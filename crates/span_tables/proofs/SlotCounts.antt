-- How many numbers the slots of a row have.
use Rattle.std.proofs.Common.{◌≡◌, refl, ℕ, ◌+◌, ◌*◌, arith, List, [], ◌∷◌, length, ℤ}
use Rattle.span_tables.specs.Laws.{cells_at, firsts_at, slots_at}
use Rattle.span_tables.specs.Slots.{slots_along}
use Rattle.span_tables.specs.Standing.{first_columns_of}
use Rattle.span_tables.specs.Widths.{span_columns_of}
use Rattle.span_tables.specs.declared.cells.SpanCell.{SpanCell}
use Rattle.span_tables.proofs.Shapes.{one_each}

along : (widths : List ℤ) (cells : List SpanCell) (firsts : List ℕ) → length firsts ≡ length cells
    → length (slots_along widths cells firsts) ≡ 2 * length cells
along widths [] firsts e = refl
along widths (cell ∷ cells) [] e = omega (arith, e)
along widths (cell ∷ cells) (first ∷ firsts) e =
    let rest = along widths cells firsts (omega (arith, e)) in
    omega (arith, rest)

pub slot_count : (rows : List (List SpanCell)) (row : ℕ) → length (slots_at rows row) ≡ 1 + 2 * length (cells_at rows row)
slot_count rows row =
    let firsts = first_columns_of rows in
    let pairs = along (span_columns_of rows firsts) (cells_at rows row) (firsts_at firsts row) ((one_each rows).cell_count row) in
    omega (arith, pairs)
