use Rattle.std.proofs.Common.{◌≡◌, take}
use Rattle.layout_model.specs.Answers.{questions_in}
use Rattle.child_questions.proofs.waves.questions_in.Given as goal

-- the questions so far
abbrev pub invariant-loop-reply : goal.invariant-loop-reply
invariant-loop-reply l = l.asks ≡ questions_in (take l.reply-index l.replies)
