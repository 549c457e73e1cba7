use Rattle.serde_json.specs.View.{view}
use Rattle.seeded_edits.proofs.Row.{the_row}
use Rattle.seeded_edits.proofs.start.row.Goals as goal

pub returns-in-Ok : goal.returns-in-Ok
returns-in-Ok c = the_row (view c.in-Ok.row) c.in-Ok.ensures.ok
