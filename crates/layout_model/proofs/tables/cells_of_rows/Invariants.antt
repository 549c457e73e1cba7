use Rattle.std.proofs.Common.{◌≡◌, map, take}
use Rattle.layout_model.specs.Tables.{cells_of_row}
use Rattle.layout_model.proofs.tables.cells_of_rows.Given as goal

-- the rows so far
abbrev pub invariant-loop-row : goal.invariant-loop-row
invariant-loop-row g l = l.cells ≡ map cells_of_row (map (g.A.Answered.told) (take l.row-index l.rows))
