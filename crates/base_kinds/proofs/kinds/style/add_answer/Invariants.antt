use Rattle.style_scope.specs.Sizes.{IsStyle}
use Rattle.base_kinds.proofs.kinds.style.add_answer.Given as goal

-- the style so far is one that styles below it may be made from
abbrev pub invariant-loop-step : goal.invariant-loop-step
invariant-loop-step l = IsStyle l.at.style
