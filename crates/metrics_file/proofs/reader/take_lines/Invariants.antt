use Rattle.std.proofs.Common.{◌≤◌, length, ◌≡◌, ◌+◌}
use Rattle.std.specs.Str.Lines.{lines}
use Rattle.metrics_file.specs.Reading.{metrics_of}
use Rattle.font_metrics.specs.Whole.{IsGiven}
use Rattle.metrics_file.proofs.Forward.{from_line}
use Rattle.metrics_file.proofs.reader.take_lines.Given as goal

-- what is given and the lines that are left make what all lines say
abbrev pub invariant-loop-rest : goal.invariant-loop-rest
invariant-loop-rest l = record {
  says : metrics_of l.bytes ≡ from_line l.number l.given (lines l.rest);
  given : IsGiven l.given;
  small : l.number + length l.rest ≤ 8388609;
}

abbrev pub decreases-loop-rest : goal.decreases-loop-rest
decreases-loop-rest l = length l.rest
