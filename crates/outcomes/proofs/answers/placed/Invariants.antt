use Rattle.std.proofs.Common.{◌≡◌, List, ◌++◌, length, map, take}
use Rattle.fixed_units.specs.Sums.{list_to}
use Rattle.layout_model.specs.Answers.{answers_in, last_answer, questions_in}
use Rattle.layout_model.specs.declared.context.Question.{Question}
use Rattle.layout_model.specs.declared.outcome.Answer.{Answer}
use Rattle.outcomes.proofs.Kids.{now_of}
use Rattle.outcomes.proofs.answers.placed.Given as goal

-- the answers so far
abbrev pub invariant-loop-place : goal.invariant-loop-place
invariant-loop-place l = record {
  count : length l.kids.items ≡ length l.initial.kids.items;
  last : (asked : List Question) (given : List Answer) → length given ≡ length asked
      → map now_of l.initial.kids.items ≡ list_to (length l.initial.kids.items) (last_answer asked given)
      → map now_of l.kids.items ≡ list_to (length l.initial.kids.items) (last_answer (asked ++ take l.place (questions_in l.replies)) (given ++ take l.place (answers_in l.replies)));
}
