-- How many cells some rows have.
use Rattle.std.proofs.Common.{◌≡◌, refl, ◌∙◌, ap, ◌+◌, arith, List, [], ◌∷◌, ◌++◌, length}
use Rattle.span_tables.specs.Bounds.{cell_count}
use Rattle.span_tables.specs.declared.cells.SpanCell.{SpanCell}

pub cell_count-push : (rows : List (List SpanCell)) (cells : List SpanCell)
    → cell_count (rows ++ cells ∷ []) ≡ cell_count rows + length cells
cell_count-push [] cells = omega arith
cell_count-push (row ∷ rows) cells = omega (arith, cell_count-push rows cells)

pub count-pushed : (rows : List (List SpanCell)) (cells : List SpanCell) (all : List (List SpanCell))
    → all ≡ rows ++ cells ∷ [] → cell_count all ≡ cell_count rows + length cells
count-pushed rows cells all e = ap cell_count e ∙ cell_count-push rows cells
