use Rattle.std.proofs.Common.{rules}
use Rattle.font_metrics.specs.Metrics.{name_at}
use Rattle.font_metrics.proofs.metrics.Metrics.name.Goals as goal

pub returns : goal.returns
unfolding name_at
returns c = search rules
