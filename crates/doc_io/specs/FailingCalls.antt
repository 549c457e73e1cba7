-- Calls that a test lets fail by their numbers.
use Rattle.std.specs.Prelude.{ℕ, ◌==◌, Bool, List}
use Rattle.std.specs.List.{list_any}
use Rattle.doc_io.specs.Causes.{raised}

-- whether the next call, after so many calls, has one of the numbers
abbrev pub fails_next : List ℕ → ℕ → Bool
fails_next numbers calls = list_any (λ number. number == raised calls) numbers
