use Rattle.std.proofs.Common.{◌≡◌, ◌++◌, length}
use Rattle.font_metrics.specs.Faults.{step_map}
use Rattle.metrics_file.specs.Lines.{lent, steps_in}
use Rattle.metrics_file.proofs.kern_lines.steps.Given as goal

-- the steps so far are those before what is left
abbrev pub invariant-loop-rest : goal.invariant-loop-rest
invariant-loop-rest l = step_map (λ above. l.steps ++ above) (steps_in (lent l.rest)) ≡ steps_in (lent l.fn.words)

abbrev pub decreases-loop-rest : goal.decreases-loop-rest
decreases-loop-rest l = length l.rest
