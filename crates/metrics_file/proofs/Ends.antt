-- The end of a file.
use Rattle.std.proofs.Common.{◌≡◌, ap, Ok, Err}
use Rattle.font_metrics.specs.declared.fault.LineFault.{LineFault}
use Rattle.font_metrics.specs.declared.given.Needed.{Needed}
use Rattle.font_metrics.specs.Faults.{Step, step_map}
use Rattle.font_metrics.specs.Metrics.{MetricsValue}
use Rattle.font_metrics.specs.Whole.{Given, needed, metrics_with}
use Rattle.metrics_file.specs.Reading.{finished}

-- the end of a file, by what it needs
pub ends_with : (g : Given) (n : Needed) → Ok n ≡ needed g → Ok (metrics_with n g) ≡ finished g
unfolding finished
ends_with g n h = ap (step_map (λ n. metrics_with n g)) h

pub ends_without : (g : Given) (fault : LineFault) → Err fault ≡ needed g → ◌≡◌ {A = Step MetricsValue} (Err fault) (finished g)
unfolding finished
ends_without g fault h = ap (step_map (λ n. metrics_with n g)) h
