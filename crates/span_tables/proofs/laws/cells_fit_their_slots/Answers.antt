use Rattle.span_tables.proofs.Slotted.{cells_fit_slots}
use Rattle.span_tables.proofs.laws.cells_fit_their_slots.Goals as goal

pub returns : goal.returns
returns c = cells_fit_slots
