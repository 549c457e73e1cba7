use Rattle.std.proofs.Common.{◌≡◌, map, replicate}
use Rattle.serde_json.specs.View.{view}
use Rattle.seeded_edits.specs.Document.{row_value}
use Rattle.seeded_edits.proofs.start.rows.Given as goal

-- as many as were added
abbrev pub invariant-loop : goal.invariant-loop
invariant-loop l = map view l.rows.items ≡ replicate l.counter row_value
