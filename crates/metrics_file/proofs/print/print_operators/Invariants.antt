use Rattle.std.proofs.Common.{◌≡◌, ◌++◌, map, take, flat_map}
use Rattle.metrics_file.specs.Print.{operator_words, line_text}
use Rattle.metrics_file.proofs.print.print_operators.Given as goal

abbrev pub invariant-loop-index : goal.invariant-loop-index
invariant-loop-index l =
    l.lines ≡ l.fn.lines ++ flat_map line_text (map operator_words (take l.index l.fn.operators))
