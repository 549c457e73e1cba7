use Rattle.math_tables.proofs.Tabular.{stand_in_lines}
use Rattle.math_tables.proofs.laws.rows_stand_one_under_the_other.Goals as goal

pub returns : goal.returns
returns c = stand_in_lines
