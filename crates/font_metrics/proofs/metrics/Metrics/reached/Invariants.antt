use Rattle.std.proofs.Common.{◌≡◌, ◌≤◌, take}
use Rattle.font_metrics.specs.Metrics.{reached_of}
use Rattle.font_metrics.proofs.metrics.Metrics.reached.Given as goal

pub record Counts (l : goal.Live-loop-step) : Type 0 where
  pub value : l.count ≡ reached_of l.fn.self (take l.step-index l.fn.steps) l.fn.height l.fn.size
  pub within : l.count ≤ l.step-index

abbrev pub invariant-loop-step : goal.invariant-loop-step
invariant-loop-step l = Counts l
