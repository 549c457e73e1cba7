use Rattle.std.proofs.Common.{subst}
use Rattle.font_metrics.specs.Taken.{IsTaken}
use Rattle.font_metrics.proofs.Finish.{whole_taken}
use Rattle.font_metrics.proofs.metrics.Metrics.is_taken.Goals as goal

pub returns : goal.returns
returns c = subst IsTaken c.self.view_is (whole_taken c.self.inside c.self.invariant)
