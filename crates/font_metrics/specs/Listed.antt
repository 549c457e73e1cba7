-- What a map of lists stands for.
use Rattle.std.specs.Prelude.{ℕ, List, map, Vec}
use Rattle.std.specs.declared.alloc.Global.{Global}

-- the entries of a map of lists, in order
abbrev pub lists_of_entries : {X : Type 0} → List (ℕ × Vec X Global) → List (ℕ × List X)
lists_of_entries entries = map (λ e. (e.0, e.1.items)) entries
