-- The answers of children: of several to one child, the last counts.
use Rattle.std.specs.Prelude.{ℕ, nat_eq, pos, List, [], ◌∷◌, map, filter, Option, Some, None, unwrap_or}
use Rattle.std.specs.List.{zip}
use Rattle.fixed_units.specs.Boxes.{empty_box}
use Rattle.layout_model.specs.declared.context.Question.{Question}
use Rattle.layout_model.specs.declared.outcome.Answer.{Answer}
use Rattle.layout_model.specs.declared.reply.Reply.{Reply}

-- what stands for the answer of a child that wasn't asked: a box of zeros
abbrev pub no_answer : Answer
no_answer = record { frame = empty_box; before = pos 0; after = pos 0; cells = []; spans = [] }

-- the answers to a child, where each question has its answer at the same place
abbrev pub answers_to : ℕ → List Question → List Answer → List Answer
answers_to kid asks answers = map (λ asked. asked.1)
    (filter (λ asked. nat_eq asked.0.kid kid) (zip asks answers))

-- the last of a list, where there is one
abbrev pub last_some : {A : Type 0} → List A → Option A
last_some [] = None
last_some (x ∷ []) = Some x
last_some (x ∷ y ∷ xs) = last_some (y ∷ xs)

-- the one that counts
unfoldable pub last_answer : List Question → List Answer → ℕ → Answer
last_answer asks answers kid = unwrap_or (last_some (answers_to kid asks answers)) no_answer

-- what replies ask, and what they answer, in order
abbrev pub questions_in : List Reply → List Question
questions_in replies = map (λ reply. reply.question) replies

abbrev pub answers_in : List Reply → List Answer
answers_in replies = map (λ reply. reply.answer) replies
