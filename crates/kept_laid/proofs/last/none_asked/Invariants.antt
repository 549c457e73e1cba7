use Rattle.std.proofs.Common.{◌≡◌, ℕ, List, [], length, Option}
use Rattle.std.specs.Borrow.{Bor}
use Rattle.layout_model.specs.declared.context.Context.{Context}
use Rattle.kept_laid.specs.Last.{AreLast, seen_contexts}
use Rattle.kept_laid.proofs.last.none_asked.Given as goal

-- so many places, none of which is asked
pub record AreUnasked (places : List (Option (Bor Context))) (count : ℕ) : Type 0 where
  pub as_many : length places ≡ count
  pub none : AreLast [] (seen_contexts places)

abbrev pub invariant-loop : goal.invariant-loop
invariant-loop l = AreUnasked l.places.items l.counter
