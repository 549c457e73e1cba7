use Rattle.std.proofs.Common.{◌≡◌, ◌∷◌, map, drop}
use Rattle.font_metrics.specs.Heights.{do_rise}
use Rattle.metrics_file.proofs.table_entries.do_rise_above.Given as goal

-- what is left of the heights rises where all do
abbrev pub invariant-loop-step : goal.invariant-loop-step
invariant-loop-step l =
    do_rise (l.lower ∷ map (λ step. step.height) (drop l.step-index l.steps))
    ≡ do_rise (l.fn.height ∷ map (λ step. step.height) l.fn.steps)
