use Rattle.math_tables.proofs.Widest.{length-columns_of, column_is_widest}
use Rattle.math_tables.proofs.laws.columns_are_as_wide_as_their_widest_cells.Goals as goal

pub returns : goal.returns
returns c = record { count = length-columns_of; width = column_is_widest }
