use Rattle.std.proofs.Common.{◌≡◌}
use Rattle.fixed_units.specs.Sums.{list_to}
use Rattle.embellished.specs.Seen.{seen_of}
use Rattle.layout_model.specs.Contexts.{kid_pull}
use Rattle.child_questions.proofs.asks.kid_pulls.Given as goal

-- the children so far
abbrev pub invariant-loop-index : goal.invariant-loop-index
invariant-loop-index g l = l.pulls ≡ list_to l.index (kid_pull l.metrics (seen_of (g.V.View.element l.parent)) l.context.form)
