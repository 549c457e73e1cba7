use Rattle.layout_model.proofs.PlainTables.{plain_tables}
use Rattle.layout_model.proofs.laws.where_no_cell_spans_a_table_is_plain.Goals as goal

pub returns : goal.returns
returns c = plain_tables
