use Rattle.span_tables.proofs.Rowwise.{row_height_in}
use Rattle.span_tables.proofs.laws.rows_of_stored_cells_are_stored.Goals as goal

pub returns : goal.returns
returns c = row_height_in
