use Rattle.span_tables.proofs.SlotBounds.{slots_within}
use Rattle.span_tables.proofs.laws.slots_lie_within_reach.Goals as goal

pub returns : goal.returns
returns c = slots_within
