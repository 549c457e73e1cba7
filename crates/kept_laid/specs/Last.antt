-- The last question to each child.
use Rattle.std.specs.Prelude.{◌≡◌, ℕ, ◌<◌, List, length, map, Option, option_map, Some, slice_get}
use Rattle.std.specs.Borrow.{Bor}
use Rattle.layout_model.specs.Layout.{last_context}
use Rattle.layout_model.specs.declared.context.Context.{Context}
use Rattle.layout_model.specs.declared.context.Question.{Question}

-- what a reference shows, where there is one
abbrev pub seen_context : Option (Bor Context) → Option Context
seen_context = option_map (λ context. context.now)

abbrev pub seen_contexts : List (Option (Bor Context)) → List (Option Context)
seen_contexts = map seen_context

-- at each place, the context of the last question to the child there, where there is one
pub record AreLast (asks : List Question) (places : List (Option Context)) : Type 0 where
  pub at : (kid : ℕ) → kid < length places → slice_get places kid ≡ Some (last_context asks kid)
