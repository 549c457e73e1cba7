use Rattle.std.proofs.Common.{◌≡◌, ℕ, List, ◌++◌, length, take, Option}
use Rattle.std.specs.Borrow.{Bor}
use Rattle.layout_model.specs.Answers.{questions_in}
use Rattle.layout_model.specs.declared.context.Context.{Context}
use Rattle.layout_model.specs.declared.context.Question.{Question}
use Rattle.kept_laid.specs.Last.{AreLast, seen_contexts}
use Rattle.kept_laid.proofs.last.put_all.Given as goal

-- as many places as before, at which the first questions are put
pub record ArePut (before after : List (Option (Bor Context))) (asks : List Question) (index : ℕ) : Type 0 where
  pub as_many : length after ≡ length before
  pub last : (earlier : List Question) → AreLast earlier (seen_contexts before) → AreLast (earlier ++ take index asks) (seen_contexts after)

abbrev pub invariant-loop-asked : goal.invariant-loop-asked
invariant-loop-asked l = ArePut l.fn.places.items l.places.items (questions_in l.asked-items) l.asked-index
