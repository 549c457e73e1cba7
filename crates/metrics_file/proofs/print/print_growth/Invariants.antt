use Rattle.std.proofs.Common.{◌≡◌, ◌++◌, flat_map}
use Rattle.std.specs.List.{range_with_len}
use Rattle.metrics_file.specs.Print.{growth_lines, line_text}
use Rattle.metrics_file.proofs.print.print_growth.Given as goal

abbrev pub invariant-loop-place : goal.invariant-loop-place
invariant-loop-place l =
    l.lines ≡ l.fn.lines ++ flat_map line_text (flat_map (growth_lines l.fn.metrics) (range_with_len 0 l.place))
