use Rattle.std.proofs.Common.{◌≡◌, take}
use Rattle.layout_model.specs.Answers.{answers_in, questions_in}
use Rattle.outcomes.proofs.finishing.replies.Given as goal

-- the first questions, and the answers to them
abbrev pub invariant-loop-place : goal.invariant-loop-place
invariant-loop-place l = record {
  questions : questions_in l.replies ≡ take l.place l.asks;
  answers : answers_in l.replies ≡ take l.place l.answers;
}
