use Rattle.std.proofs.Common.{◌≡◌}
use Rattle.input_files.specs.Files.{metrics_in}
use Rattle.metrics_file.specs.Reading.{most_file_bytes}
use Rattle.input_files.specs.declared.refusal.Refusal.TheVariants.{MetricsLong, ReadFault}
use Rattle.commands.proofs.Loading.{metrics_read, metrics_long, not_read}
use Rattle.commands.proofs.load.load_metrics.Goals as goal

pub returns-in-Ok : goal.returns-in-Ok
returns-in-Ok g c =
    metrics_read _ _ _ _ _ _ c.in-Ok.ensures.reads c.as_slice.ensures c.metrics_of.ensures

pub returns-in-Err : goal.returns-in-Err
returns-in-Err g c =
    let own : ¬ (MetricsLong ≡ ReadFault) = λ e. cc in
    not_read metrics_in most_file_bytes _ _ _ _ MetricsLong _ c.of_reading.ensures c.in-Err.ensures.reads metrics_long own
