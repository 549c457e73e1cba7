use Rattle.std.proofs.Common.{◌≡◌, map}
use Rattle.fixed_units.specs.Sums.{list_to}
use Rattle.std.specs.List.{All}
use Rattle.layout_model.specs.Answers.{questions_in}
use Rattle.layout_model.specs.Fits.{HasStyle}
use Rattle.embellished.specs.Seen.{seen_of}
use Rattle.layout_model.specs.Questions.{row_asked}
use Rattle.child_questions.proofs.tables.asked_over.Given as goal

-- the rows so far
abbrev pub invariant-loop-index : goal.invariant-loop-index
invariant-loop-index g l = record {
  value : questions_in l.asks ≡ list_to l.index (row_asked l.metrics (seen_of (g.V.View.element l.parent)) l.context (map (g.A.Answered.told) l.rows));
  styles : All HasStyle (questions_in l.asks);
}
