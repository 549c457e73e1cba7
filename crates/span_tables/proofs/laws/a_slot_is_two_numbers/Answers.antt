use Rattle.span_tables.proofs.SlotCounts.{slot_count}
use Rattle.span_tables.proofs.laws.a_slot_is_two_numbers.Goals as goal

pub returns : goal.returns
returns c = slot_count
