use Rattle.std.proofs.lemmas.Option.{slice_get-get_or}
use Rattle.metrics_file.specs.Print.{table_lines}
use Rattle.font_metrics.specs.Tables.{all_tables}
use Rattle.metrics_file.proofs.Printing.{lines-more}
use Rattle.metrics_file.proofs.print.print_place.Goals as goal

pub loop-table-preserved : goal.loop-table-preserved
loop-table-preserved c =
    lines-more (table_lines c.args.metrics.now c.args.base.0) all_tables c.loop-table.table-index _ _ _ _
    (slice_get-get_or all_tables c.loop-table.table-index _ c.loop-table-test.true) c.loop-table.invariant
    c.in_ok-print_table.ensures
