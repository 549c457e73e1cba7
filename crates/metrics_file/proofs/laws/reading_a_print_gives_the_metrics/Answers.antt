use Rattle.metrics_file.proofs.ReadBack.Whole.{print_reads_back}
use Rattle.metrics_file.proofs.laws.reading_a_print_gives_the_metrics.Goals as goal

pub returns : goal.returns
returns c = print_reads_back
