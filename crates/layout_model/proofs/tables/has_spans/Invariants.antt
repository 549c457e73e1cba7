use Rattle.std.proofs.Common.{◌≡◌, false, map, take}
use Rattle.layout_model.specs.Tables.{has_spans}
use Rattle.layout_model.proofs.tables.has_spans.Given as goal

-- none of the rows so far has a cell that spans
abbrev pub invariant-loop-row : goal.invariant-loop-row
invariant-loop-row g l = has_spans (map (g.A.Answered.told) (take l.row-index l.rows)) ≡ false
