use Rattle.fractions.proofs.Gaps.{stack_keeps_gap, stack_without_rule}
use Rattle.fractions.proofs.laws.the_ink_of_a_stack_keeps_the_least_gap.Goals as goal

pub returns : goal.returns
returns c = record { rule = stack_without_rule; gap = stack_keeps_gap }
