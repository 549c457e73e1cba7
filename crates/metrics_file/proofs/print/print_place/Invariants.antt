use Rattle.std.proofs.Common.{◌≡◌, ◌++◌, take, flat_map}
use Rattle.metrics_file.specs.Print.{table_lines, line_text}
use Rattle.metrics_file.proofs.print.print_place.Given as goal

abbrev pub invariant-loop-table : goal.invariant-loop-table
invariant-loop-table l =
    l.lines ≡ l.fn.lines ++ flat_map line_text
    (flat_map (table_lines l.fn.metrics l.fn.base.0) (take l.table-index l.table-items))
