use Rattle.math_tables.proofs.Tabular.{stand_in_columns}
use Rattle.math_tables.proofs.laws.cells_stand_in_their_columns.Goals as goal

pub returns : goal.returns
returns c = stand_in_columns
