use Rattle.std.proofs.Common.{◌≡◌}
use Rattle.fixed_units.specs.Sums.{list_to}
use Rattle.layout_model.specs.Tables.{cell_of_row}
use Rattle.layout_model.proofs.tables.cells_of_row.Given as goal

-- the cells so far
abbrev pub invariant-loop-place : goal.invariant-loop-place
invariant-loop-place l = l.cells ≡ list_to l.place (cell_of_row l.row)
