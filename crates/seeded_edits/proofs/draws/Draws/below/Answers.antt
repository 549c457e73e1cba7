use Rattle.std.proofs.Common.{◌∙◌, ap, ℕ, ◌/◌, ◌%◌}
use Rattle.seeded_edits.specs.Draws.{next_state, number_in}
use Rattle.seeded_edits.proofs.Wrapping.{wrapped_state}
use Rattle.seeded_edits.proofs.draws.Draws.below.Goals as goal

pub returns-clause-number : goal.returns-clause-number
unfolding number_in
returns-clause-number c =
    ap (λ (s : ℕ). s / 8589934592 % c.args.n) (wrapped_state c.self.inside.state ∙ ap next_state c.self.view_is)

pub returns-clause-state : goal.returns-clause-state
returns-clause-state c = wrapped_state c.self.inside.state ∙ ap next_state c.self.view_is
