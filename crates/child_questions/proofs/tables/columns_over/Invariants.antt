use Rattle.std.proofs.Common.{◌≡◌, map, take}
use Rattle.layout_model.specs.declared.outcome.Answer.{Answer}
use Rattle.child_questions.proofs.tables.columns_over.Given as goal

-- the rows so far
abbrev pub invariant-loop-row : goal.invariant-loop-row
invariant-loop-row g l = l.cells ≡ map (λ (row : Answer). row.cells) (map (g.A.Answered.told) (take l.row-index l.rows))
