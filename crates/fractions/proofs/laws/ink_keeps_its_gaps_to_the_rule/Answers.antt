use Rattle.fractions.proofs.Gaps.{keeps_gaps}
use Rattle.fractions.proofs.laws.ink_keeps_its_gaps_to_the_rule.Goals as goal

pub returns : goal.returns
returns c = keeps_gaps
