use Rattle.embellished.proofs.FlowLaws.{tabular}
use Rattle.embellished.proofs.laws.tables_have_rows_of_cells.Goals as goal

pub returns : goal.returns
returns c = tabular
