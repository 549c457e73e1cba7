-- Where the columns of a table are, over the answers of its rows.
use Rattle.std.specs.Prelude.{List, if◌then◌else◌}
use Rattle.math_tables.specs.Placing.{table_width_of}
use Rattle.span_tables.specs.Slots.{starts_of}
use Rattle.span_tables.specs.Standing.{first_columns_of}
use Rattle.layout_model.specs.Tables.{cells_of_rows, columns_over, has_spans, spanned_columns}
use Rattle.layout_model.specs.declared.outcome.Answer.{Answer}
use Rattle.child_questions.specs.declared.tables.Grid.{Grid}
use Rattle.child_questions.specs.declared.tables.Grid.TheVariants.{Plain, Spanning}

abbrev pub plain_grid_of : List Answer → Grid
plain_grid_of rows = Plain (table_width_of (columns_over rows)) (columns_over rows)

abbrev pub spanning_grid_of : List Answer → Grid
spanning_grid_of rows =
    let cells = cells_of_rows rows in
    Spanning cells (first_columns_of cells) (starts_of (spanned_columns rows))

unfoldable pub grid_of : List Answer → Grid
grid_of rows = if has_spans rows then spanning_grid_of rows else plain_grid_of rows
