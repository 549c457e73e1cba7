use Rattle.std.proofs.Common.{◌≡◌, All, map, take}
use Rattle.span_tables.specs.Heights.{IsHeightStored}
use Rattle.layout_model.specs.Tables.{height_of_row}
use Rattle.layout_model.specs.declared.outcome.Answer.{Answer}
use Rattle.outcomes.proofs.spanning.heights.Given as goal

-- the rows so far
abbrev pub invariant-loop-index : goal.invariant-loop-index
invariant-loop-index g l = record {
  value : l.heights ≡ map (λ (row : Answer). height_of_row row.frame) (take l.index l.e.kids);
  stored : All IsHeightStored l.heights;
}
