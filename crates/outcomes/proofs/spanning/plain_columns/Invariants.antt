use Rattle.std.proofs.Common.{◌≡◌, map, take}
use Rattle.layout_model.specs.declared.outcome.Answer.{Answer}
use Rattle.outcomes.proofs.Kids.{now_of}
use Rattle.outcomes.proofs.spanning.plain_columns.Given as goal

-- the rows so far
abbrev pub invariant-loop-row : goal.invariant-loop-row
invariant-loop-row g l = l.cells ≡ map (λ (row : Answer). row.cells) (map now_of (take l.row-index l.row-items))
