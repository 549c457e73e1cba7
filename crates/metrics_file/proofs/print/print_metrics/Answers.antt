use Rattle.std.proofs.Common.{◌∙◌, ap}
use Rattle.metrics_file.specs.Reading.{metrics_of}
use Rattle.metrics_file.proofs.print.print_metrics.Goals as goal

pub returns-clause-print : goal.returns-clause-print
returns-clause-print c = c.into_bytes.ensures ∙ c.in_ok-print_lines.ensures.print

pub returns-clause-reads_back : goal.returns-clause-reads_back
returns-clause-reads_back c = ap metrics_of c.into_bytes.ensures ∙ c.in_ok-print_lines.ensures.reads_back
