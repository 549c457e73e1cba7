use Rattle.span_tables.proofs.Slotted.{slots_wide}
use Rattle.span_tables.proofs.laws.slots_have_the_width_of_the_table.Goals as goal

pub returns : goal.returns
returns c = slots_wide
