use Rattle.std.proofs.Common.{◌≡◌, ◌++◌, List, take}
use Rattle.layout_model.specs.Answers.{questions_in}
use Rattle.layout_model.specs.Layout.{last_context}
use Rattle.layout_model.specs.declared.context.Question.{Question}
use Rattle.kept_laid.specs.Last.{seen_context}
use Rattle.kept_laid.proofs.last.last_among.Given as goal

-- the first questions
abbrev pub invariant-loop-asked : goal.invariant-loop-asked
invariant-loop-asked l =
    (earlier : List Question) → seen_context l.before ≡ last_context earlier l.kid → seen_context l.last ≡ last_context (earlier ++ take l.asked-index (questions_in l.asked-items)) l.kid
